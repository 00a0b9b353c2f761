use Rattle.fit_files.specs.Exports.Exported.{Exports}
use Rattle.fit_commands.proofs.InputReported.{input_answered}
use Rattle.fit_commands.proofs.export.export_file.Goals as goal

pub returns : goal.returns
returns g c =
    input_answered {T = Unit {0}} (g.F.NamedFiles.held c.args.files.now c.args.name.now) c.args.name (Exports c.args.form (g.O.Write.contents c.args.out.now) (g.O.Write.contents c.export_input-shown.new.out))
    _ _ _ _ c.export_input-shown.result c.reported.result c.in_ok-file.ensures.held c.export_input-shown.ensures.shown c.export_input-shown.ensures.quiet
    c.reported.ensures
