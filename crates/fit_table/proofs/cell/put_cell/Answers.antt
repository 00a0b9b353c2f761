use Rattle.std.proofs.Common.{◌∷◌, [], sym, ap, ◌∙◌, w64, rules}
use Rattle.std.proofs.lemmas.Int.{to_z-of_z}
use Rattle.fit_table.specs.Number.{unit_text}
use Rattle.fit_table.specs.Table.{empty_of}
use Rattle.fit_table.specs.Tokens.{Text}
use Rattle.fit_table.specs.Unit.{unit_in}
use Rattle.fit_table.proofs.LineLemmas.{value_shows}
use Rattle.fit_table.proofs.TokenLemmas.{tokens_same, tokens_text}
use Rattle.fit_table.proofs.cell.put_cell.Goals as goal

pub returns-in-Some : goal.returns-in-Some
returns-in-Some g c =
    tokens_same (tokens_text c.put_value.ensures)
    (rw (c.empty_of.ensures, c.unit_at-unit.ensures)
    (ap (λ v. Text (unit_text (empty_of c.args.layout.now) (unit_in c.args.layout.now c.args.place.now.number) v) ∷ [])
    (to_z-of_z w64 c.in-Some.value (search rules))
    ∙ value_shows c.args.layout.now c.args.arch c.args.time c.args.content.now c.args.place.now c.in-Some.value (sym c.cell.ensures.value ∙ c.in-Some.is)))
