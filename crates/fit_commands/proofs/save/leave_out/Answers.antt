use Rattle.std.proofs.Common.{◌≡◌, ℕ, Bool, true, List, Option, Some, None, refl, sym, ap, subst, inl, inr, arith}
use Rattle.std.proofs.lemmas.List.{take_at}
use Rattle.std.specs.Prelude.{IfSome}
use Rattle.fit_disk.specs.State.{Contents}
use Rattle.fit_recorder.specs.Files.Changed.{HasChanged}
use Rattle.fit_recorder.specs.Files.Earlier.{without_last}
use Rattle.fit_commands.specs.Reported.{AreCounted}
use Rattle.fit_commands.proofs.save.leave_out.Goals as goal

abbrev both : List ℕ → List ℕ → Contents
both data_bytes journal = record { in_data = data_bytes; in_journal = journal }

-- the journal without its last commit, or as it was
counted : (earlier : Bool) (data_bytes old new : List ℕ) (fewer : Option ℕ) (A C : Type 0) (B : ℕ → Type 0) → earlier ≡ true
    → IfSome fewer (λ n. HasChanged (both data_bytes old) × A × (new ≡ (without_last (both data_bytes old)).in_journal) × B n)
    → (fewer ≡ None → (new ≡ old) × C) → AreCounted earlier (both data_bytes old) (both data_bytes new)
counted earlier data_bytes old new None A C B is left same = inl (ap (both data_bytes) (same refl).0)
counted earlier data_bytes old new (Some n) A C B is left same = inr (is, left.0, ap (both data_bytes) left.2)

pub returns : goal.returns
returns c =
    let data_bytes = c.args.data_bytes.now in
    let old = c.args.journal_bytes.now in
    let new = c.leave_changed.new.journal_bytes in
    subst (λ (j : List ℕ). AreCounted c.args.earlier (both data_bytes old.items) (both data_bytes j))
    (sym (take_at new _ old.len (omega (arith, c.leave_changed.auto.journal_bytes, c.as_mut_slice.ensures.len))))
    (subst (λ (j : List ℕ). AreCounted c.args.earlier (both data_bytes j) (both data_bytes new)) c.as_mut_slice.ensures.value
    (counted c.args.earlier data_bytes c.as_mut_slice.result.now new c.leave_changed.result _ _ _ c.if-not-earlier.false
    c.leave_changed.ensures.left c.leave_changed.ensures.same))
