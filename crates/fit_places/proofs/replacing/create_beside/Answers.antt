use Rattle.std.proofs.Common.{inl, inr, ℕ, List, refl, ◌∙◌, subst, arith}
use Rattle.fit_places.specs.Private.{CreatesBeside}
use Rattle.fit_places.proofs.Moments.{unchanged_same}
use Rattle.fit_places.proofs.Runs.{on_err, if_err, fails_after, unchanged_after, taken_more, created_beside}
use Rattle.fit_places.proofs.replacing.create_beside.Goals as goal

pub loop-number-init : goal.loop-number-init
loop-number-init g c honest = record { same = refl; taken = λ number below. absurd (omega arith) }

pub loop-number-preserved : goal.loop-number-preserved
loop-number-preserved g c honest =
    let more = taken_more c.args.out.now c.as_str.result.now c.loop-number.number-counter _ _ _ _ (c.loop-number.invariant honest).same (c.as_str.ensures.value ∙ c.in-Ok.ensures.ok) c.if-is_made.false (c.in_ok-is_made.ensures.ok honest) (c.loop-number.invariant honest).taken in
    record { same = more.0; taken = more.1 }

pub returns-in_default-clause-err : goal.returns-in_default-clause-err
returns-in_default-clause-err g c honest = unchanged_same _ _ (c.loop-number.invariant honest).same

pub returns-in_err-is_made-clause-err : goal.returns-in_err-is_made-clause-err
returns-in_err-is_made-clause-err g c honest = on_err _ (unchanged_after _ _ _ (c.loop-number.invariant honest).same (c.in_err-is_made.ensures.err honest))

pub returns-in_err-is_made-clause-cause : goal.returns-in_err-is_made-clause-cause
returns-in_err-is_made-clause-cause g c honest = if_err _ (λ fault. fails_after (g.P.Place.story c.args.place.now) (g.P.Place.story c.loop-number.place) (g.P.Place.story c.create_under.new.place) (c.loop-number.invariant honest).same (inl (c.in_err-is_made.ensures.failed honest)))

pub returns-then-is_made-clause-ok : goal.returns-then-is_made-clause-ok
returns-then-is_made-clause-ok g c honest =
    subst (λ (name : List ℕ). CreatesBeside c.args.out.now name (g.P.Place.story c.args.place.now) (g.P.Place.story c.create_under.new.place)) c.as_str.ensures.value
    (created_beside c.args.out.now c.as_str.result.now c.loop-number.number-counter _ _ _ _ (c.loop-number.invariant honest).same (c.as_str.ensures.value ∙ c.in-Ok.ensures.ok) c.loop-number-test.true c.if-is_made.true (c.in_ok-is_made.ensures.ok honest))

pub returns-clause-err : goal.returns-clause-err
returns-clause-err g c honest = unchanged_same _ _ (c.loop-number.invariant honest).same

pub returns-clause-cause : goal.returns-clause-cause
returns-clause-cause g c honest = inr (inl (λ number below. (c.loop-number.invariant honest).taken number (let past = c.loop-number-test.false in omega arith)))
