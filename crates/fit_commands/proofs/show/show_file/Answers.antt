use Rattle.fit_files.specs.Printed.Shown.{ShowsBytes}
use Rattle.fit_commands.proofs.InputReported.{input_answered}
use Rattle.fit_commands.proofs.show.show_file.Goals as goal

pub returns : goal.returns
returns g c =
    input_answered {T = Unit {0}} (g.F.NamedFiles.held c.args.files.now c.args.name.now) c.args.name (ShowsBytes c.args.utc (g.O.Write.contents c.args.out.now) (g.O.Write.contents c.show_input-shown.new.out))
    _ _ _ _ c.show_input-shown.result c.reported.result c.in_ok-file.ensures.held c.show_input-shown.ensures.shown c.show_input-shown.ensures.quiet
    c.reported.ensures
