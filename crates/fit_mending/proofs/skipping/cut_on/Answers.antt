use Rattle.std.proofs.Common.{◌≡◌, ℕ, ◌+◌, ◌<◌, ◌≤◌, Bool, true, false, List, [], length, drop, refl, sym, subst, ◌∙◌, append-nil, arith}
use Rattle.std.specs.Prelude.{nat_lt}
use Rattle.std.proofs.lemmas.Bool.{ltb-true, ltb-false}
use Rattle.std.proofs.lemmas.List.{drop-drop, length-drop, take_rest}
use Rattle.fit_grammar.specs.Calls.Table.{definition_in}
use Rattle.fit_mending.specs.Pieces.{AreCut}
use Rattle.fit_mending.specs.Steady.{IsTrusted}
use Rattle.fit_mending.proofs.Cut.{added_more, cuts_more, cuts_none}
use Rattle.fit_mending.proofs.Reading.{up_to_all, up_to_more, up_to_none}
use Rattle.fit_mending.proofs.skipping.cut_on.Goals as goal

pub loop-at-init : goal.loop-at-init
loop-at-init g c = (
  c.requires.within,
  refl,
  λ taken has. (
    taken,
    has,
    cuts_none c.args.bytes.now c.args.from (definition_in c.args.latest) taken,
    ([], sym (append-nil taken)),
    up_to_none c.args.bytes.now (definition_in c.args.latest) c.args.progress taken,
  ),
  c.requires.allowed,
  c.requires.beyond,
  omega arith,
)

within : (bytes : List ℕ) (at count : ℕ) → at ≤ length bytes → count ≤ length (drop at bytes) → at + count ≤ length bytes
within bytes at count le more = omega (arith, le, more, length-drop at bytes)

some_passed : (bytes : List ℕ) (at count more : ℕ) → at < length bytes → (1 ≤ length (drop (at + count) bytes) → 1 ≤ more) → 1 ≤ count + more
some_passed bytes at count more less some = by (nat_lt (at + count) (length bytes)) refl
  where
    by : (b : Bool) → nat_lt (at + count) (length bytes) ≡ b → 1 ≤ count + more
    by true before = omega (arith, some (omega (arith, ltb-true (at + count) (length bytes) before, length-drop (at + count) bytes)))
    by false there = omega (arith, less, ltb-false (at + count) (length bytes) there)

pub loop-at-preserved : goal.loop-at-preserved
loop-at-preserved g c =
    let bytes = c.args.bytes.now in
    let at = c.loop-at.at in
    let count = c.pass_from.result in
    let was = c.loop-at.invariant in
    let ends = c.pass_from.ensures.ends in
    let passes = c.pass_from.ensures.passed in
    let counted = c.count_faulty.ensures.looks (omega arith) in
    let passed = some_passed bytes at count c.count_faulty.result (omega (arith, c.loop-at-test.true)) (rw take_rest at c.count_faulty.ensures.some (omega arith)) in
    let le = within bytes at count was.0 c.pass_from.ensures.within in
    let all : at + count + c.count_faulty.result ≤ length bytes =
    within bytes (at + count) c.count_faulty.result le (rw take_rest at c.count_faulty.ensures.within) in (
      all,
      c.put_piece-in-loop-at.ensures.place ∙ c.put_piece.ensures.place ∙ was.1,
      λ taken has.
          let before = was.2 taken has in
          let kept = c.in_ok-put_piece.ensures.cut bytes before.0 le before.1 in
          let left = c.in_ok-put_piece-2.ensures.cut bytes kept.0 all kept.1 in (
            left.0,
            left.1,
            cuts_more bytes c.args.from (definition_in c.args.latest) (definition_in c.loop-at.latest) (definition_in c.pass_from.new.latest)
                at count (at + count + c.count_faulty.result) taken before.0 kept.0 left.0 before.2 passes kept.2 left.2,
            added_more taken before.0 left.0 before.3 (added_more before.0 kept.0 left.0 kept.2.added left.2.added),
            up_to_more bytes (definition_in c.args.latest) (definition_in c.loop-at.latest) (definition_in c.pass_from.new.latest)
                c.args.progress c.loop-at.progress c.pass_from.new.progress c.count_faulty.new.progress at count c.count_faulty.result taken
                before.0 kept.0 left.0 before.4 c.pass_from.ensures.read c.pass_from.ensures.steady
                c.pass_from.ensures.from
                (λ trusted. ends (subst (IsTrusted (definition_in c.pass_from.new.latest) c.pass_from.new.progress) (sym (drop-drop count at bytes)) trusted))
                (rw take_rest at c.count_faulty.ensures.left) kept.2.one left.2.one,
          ),
      omega (arith, was.3, counted.1),
      omega (arith, was.4, counted.3, passed),
      omega (arith, was.5, counted.2),
    )

pub returns-clause-cut : goal.returns-clause-cut
returns-clause-cut g c = λ taken has.
    let bytes = c.args.bytes.now in
    let before = c.loop-at.invariant.2 taken has in
    let all : c.loop-at.at ≡ length bytes = omega (arith, c.loop-at.invariant.0, c.loop-at-test.false) in (
      before.0,
      before.1,
      λ first items front e cut.
          let there = before.2 first items front e cut in
          (there.0, subst (λ (n : ℕ). AreCut first bytes front n there.0 before.0) all there.2),
      before.3,
      up_to_all bytes (definition_in c.args.latest) (definition_in c.loop-at.latest) c.args.progress c.loop-at.progress taken before.0 before.4,
    )
