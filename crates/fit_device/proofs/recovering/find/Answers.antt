use Rattle.std.proofs.Common.{refl, arith}
use Rattle.fit_plan.proofs.Lending.{no_failure}
use Rattle.fit_recorder.specs.Calls.Counts.{finding_calls}
use Rattle.fit_device.proofs.recovering.find.Goals as goal

pub returns-clause-no_device : goal.returns-clause-no_device
returns-clause-no_device c =
    no_failure finding_calls _ c.over-journal.result c.begin.new.disk (c.over-journal.ensures.whole refl) (omega arith) c.begin.ensures.ran (c.begin.ensures.same refl)
