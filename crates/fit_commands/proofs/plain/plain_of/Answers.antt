use Rattle.std.proofs.Common.{None, refl}
use Rattle.fit_files.specs.Printed.PlainFile.{PlainsTo}
use Rattle.fit_commands.proofs.InputReported.{input_answered}
use Rattle.fit_commands.proofs.plain.plain_of.Goals as goal

pub returns : goal.returns
returns g c =
    input_answered _ c.args.name PlainsTo None None _ _ c.plain_input.result c.reported.result c.in_ok-file.ensures.held c.plain_input.ensures
    (λ refused is. refl) c.reported.ensures
