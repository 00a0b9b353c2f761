use Rattle.std.proofs.Common.{◌≡◌, false, ℕ, ◌-◌, ◌≤◌, ◌%◌, Bool, true, List, [], ◌∷◌, length, take, drop, refl, ap, ◌∙◌, subst, arith, eq-eqb}
use Rattle.std.specs.Prelude.{slice_index_or, slice_set, not, ◌&&◌, ◌||◌}
use Rattle.std.proofs.lemmas.Bool.{ne_eqb}
use Rattle.std.proofs.lemmas.List.{take_all, length-set}
use Rattle.fit_mending.specs.Form.{are_usual as are_usual_of, unit_of}
use Rattle.fit_mending.proofs.layout.are_usual.Goals as goal

goes_on : (none unit size multiple seen rest : Bool) → none ≡ false → unit ≡ false → size ≡ false → multiple ≡ true → seen ≡ false
    → rest ≡ (none || ((not unit && not size && multiple) && not seen && rest))
goes_on none unit size multiple seen rest a b c d e = rw (a, b, c, d, e) refl

one_field : (count : ℕ) (seen : List Bool) (fields : List ℕ) → 1 ≤ count → 3 ≤ length fields
    → (unit_of (slice_index_or fields 2 0) ≡ 0 → ⊥) → (slice_index_or fields 1 0 ≡ 0 → ⊥)
    → slice_index_or fields 1 0 % unit_of (slice_index_or fields 2 0) ≡ 0 → slice_index_or seen (slice_index_or fields 0 0) false ≡ false
    → are_usual_of (count - 1) (slice_set seen (slice_index_or fields 0 0) true) (take (length fields - 3) (drop 3 fields)) ≡ are_usual_of count seen fields
one_field count seen [] some long unit size multiple new = absurd (omega arith)
one_field count seen (a ∷ []) some long unit size multiple new = absurd (omega arith)
one_field count seen (a ∷ b ∷ []) some long unit size multiple new = absurd (omega arith)
one_field count seen (a ∷ b ∷ c ∷ fields) some long unit size multiple new =
    ap (are_usual_of (count - 1) (slice_set seen a true)) (take_all (length (a ∷ b ∷ c ∷ fields) - 3) fields (omega arith))
    ∙ goes_on _ _ _ _ _ (are_usual_of (count - 1) (slice_set seen a true) fields) (ne_eqb count 0 (λ e. absurd (omega (arith, e, some))))
    (ne_eqb (unit_of c) 0 unit) (ne_eqb b 0 size) (eq-eqb (b % unit_of c) 0 multiple) new

pub loop-left-preserved : goal.loop-left-preserved
loop-left-preserved c =
    let fields = c.loop-left.rest.now in (
      length-set c.loop-left.seen (slice_index_or fields 0 0) true ∙ c.loop-left.invariant.0,
      one_field c.loop-left.left c.loop-left.seen fields (omega (arith, c.loop-left-test.true)) c.in-len3-up.len_at_least
          (λ e. absurd (omega (arith, e, c.if-unit-eq0.false, c.size_of-unit.ensures)))
          (λ e. absurd (omega (arith, e, c.if-size-eq0.false)))
          (subst (λ (n : ℕ). slice_index_or fields 1 0 % n ≡ 0) c.size_of-unit.ensures c.if-size-unit-ne0.false)
          c.if-seen-number.false
          ∙ c.loop-left.invariant.1,
    )
