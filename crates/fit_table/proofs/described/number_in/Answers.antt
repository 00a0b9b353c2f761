use Rattle.std.proofs.Common.{sym, ◌∙◌, arith}
use Rattle.fit_columns.proofs.PlaceLemmas.{all_sizes, place_gives}
use Rattle.fit_table.proofs.described.number_in.Goals as goal

pub returns : goal.returns
returns c =
    let d = c.args.definition.now in
    c.cell.ensures.value
    ∙ sym (place_gives d c.args.number c.place_in-place.result c.args.content.now (omega (arith, c.requires.whole, all_sizes d)) c.place_in-place.ensures)
