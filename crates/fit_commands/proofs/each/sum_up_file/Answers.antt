use Rattle.std.proofs.Common.{None, refl}
use Rattle.fit_files.specs.Printed.Checked.{SumsUp}
use Rattle.fit_commands.proofs.InputReported.{input_answered}
use Rattle.fit_commands.proofs.each.sum_up_file.Goals as goal

pub returns : goal.returns
returns g c =
    input_answered _ c.args.name SumsUp None None _ _ c.sum_up_input.result c.reported.result c.in_ok-file.ensures.held c.sum_up_input.ensures
    (λ refused is. refl) c.reported.ensures
