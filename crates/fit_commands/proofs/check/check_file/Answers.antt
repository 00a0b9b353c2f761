use Rattle.fit_files.specs.Printed.Checked.{ChecksBytes}
use Rattle.fit_commands.proofs.InputReported.{input_answered}
use Rattle.fit_commands.proofs.check.check_file.Goals as goal

pub returns : goal.returns
returns g c =
    input_answered {T = Unit {0}} (g.F.NamedFiles.held c.args.files.now c.args.name.now) c.args.name (ChecksBytes (g.O.Write.contents c.args.out.now) (g.O.Write.contents c.check_input.new.out))
    _ _ _ _ c.check_input.result c.reported.result c.in_ok-file.ensures.held c.check_input.ensures.checked c.check_input.ensures.quiet
    c.reported.ensures
