use Rattle.std.proofs.Common.{refl}
use Rattle.fit_files.specs.Exports.Tabled.{ShowsHeld}
use Rattle.fit_commands.proofs.InputReported.{input_answered}
use Rattle.fit_commands.proofs.table.table_held_from.Goals as goal

pub returns : goal.returns
returns g c =
    input_answered {T = Unit {0}} (g.T.Read.remaining c.args.from.now) c.args.name (ShowsHeld c.args.layout.now c.table_held_input-shown.new.held (g.O.Write.contents c.args.out.now) (g.O.Write.contents c.table_held_input-shown.new.out))
    _ _ _ _ c.table_held_input-shown.result c.reported.result refl c.table_held_input-shown.ensures.shown c.table_held_input-shown.ensures.quiet
    c.reported.ensures
