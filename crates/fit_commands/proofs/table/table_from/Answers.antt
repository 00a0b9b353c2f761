use Rattle.std.proofs.Common.{None, refl}
use Rattle.fit_files.specs.Exports.Tabled.{ShowsTable}
use Rattle.fit_commands.proofs.InputReported.{input_answered}
use Rattle.fit_commands.proofs.table.table_from.Goals as goal

pub returns : goal.returns
returns g c =
    input_answered {T = Unit {0}} (g.T.Read.remaining c.args.from.now) c.args.name (ShowsTable c.args.layout.now None (g.O.Write.contents c.args.out.now) (g.O.Write.contents c.table_input-shown.new.out))
    _ _ _ _ c.table_input-shown.result c.reported.result refl c.table_input-shown.ensures.shown c.table_input-shown.ensures.quiet
    c.reported.ensures
