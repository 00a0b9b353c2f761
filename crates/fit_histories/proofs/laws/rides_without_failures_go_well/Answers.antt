use Rattle.fit_histories.proofs.Histories.Plain.{rides_go_well}
use Rattle.fit_histories.proofs.laws.rides_without_failures_go_well.Goals as goal

pub returns : goal.returns
returns c = rides_go_well
