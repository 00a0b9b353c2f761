use Rattle.std.proofs.Common.{sym, subst}
use Rattle.fit_disk.specs.Story.{Story}
use Rattle.fit_device.specs.Planned.{bytes_in, calls_in}
use Rattle.fit_plan.proofs.Prefix.{left_by_cut}
use Rattle.fit_plan.specs.Between.{IsLeftBetween}
use Rattle.fit_device.proofs.laws.prefix.Goals as goal

pub returns : goal.returns
returns c = λ plan old mid new contents leads off left.
    subst (λ (story : Story). IsLeftBetween old story contents) (sym leads.ends) (left_by_cut (bytes_in plan) (calls_in plan) old mid contents leads.well_formed.calls off left)
