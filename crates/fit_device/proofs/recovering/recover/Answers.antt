use Rattle.std.proofs.Common.{inr, refl, subst}
use Rattle.fit_disk.specs.State.{Contents}
use Rattle.fit_plan.specs.Plan.{plan_story}
use Rattle.fit_recorder.specs.Calls.Recovery.{Rebuilds}
use Rattle.fit_device.proofs.recovering.recover.Goals as goal

pub returns-in-Some-clause-any_moment : goal.returns-in-Some-clause-any_moment
returns-in-Some-clause-any_moment c =
    let found = c.loop-answer.invariant in
    record {
      found = plan_story c.loop-answer.files;
      before = found.run;
      after = inr (found.settled, subst (λ (contents : Contents). Rebuilds contents (plan_story c.loop-answer.files) (plan_story c.go_on.new.disk)) found.same (c.go_on.ensures.any_moment refl));
    }
