use Rattle.std.proofs.Common.{List, ℕ, refl, sym, subst, arith}
use Rattle.fit_grammar.specs.Calls.Table.{definition_in}
use Rattle.fit_mending.specs.Others.{BeginsRide}
use Rattle.fit_mending.proofs.Riding.{none_yet}
use Rattle.fit_mending.proofs.rides.first_ride.Goals as goal

pub loop-at-preserved : goal.loop-at-preserved
loop-at-preserved c =
    none_yet (definition_in c.args.latest.now) c.args.bytes.now c.loop-at.at c.loop-at.invariant
    (λ time begins. c.in_default.ensures.none refl time
    (subst (λ (l : List ℕ). BeginsRide (definition_in c.args.latest.now) l time) (sym c.split_at.ensures.back) begins))

pub returns : goal.returns
returns c = λ at time less. c.loop-at.invariant at time (omega (arith, less, c.loop-at-test.false))
