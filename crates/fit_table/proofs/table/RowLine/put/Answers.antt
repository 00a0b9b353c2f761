use Rattle.std.proofs.Common.{[], length, ap, ◌∙◌, arith}
use Rattle.fit_columns.specs.Fields.{fields_here}
use Rattle.fit_columns.proofs.PlaceLemmas.{all_sizes}
use Rattle.fit_columns.proofs.PlanLemmas.{places_in}
use Rattle.fit_table.specs.NamedPlans.{spread, tokens_of}
use Rattle.fit_table.proofs.LineLemmas.{line_shows}
use Rattle.fit_table.proofs.NamedLemmas.{named}
use Rattle.fit_table.proofs.TokenLemmas.{tokens_same, tokens_then, tokens_stop, tokens_text}
use Rattle.fit_table.proofs.table.RowLine.put.Goals as goal

pub returns-in_err-put : goal.returns-in_err-put
returns-in_err-put g c = λ known names place own. tokens_stop c.from_residual.ensures.0 (tokens_text c.in_err-put.ensures) _

pub put_cells-requires-clause-inside : goal.put_cells-requires-clause-inside
put_cells-requires-clause-inside g c =
    let found = c.args.found.now in
    rw c.as_slice-places.ensures.value
    (places_in (fields_here found.definition) c.args.self.now.layout.now.fields.now c.args.plan.now.places.items (length found.content.now)
    (omega (arith, found.whole, all_sizes found.definition)) c.requires.plan.places)

pub put_named_cells-requires : goal.put_named_cells-requires
put_named_cells-requires g c =
    let found = c.args.found.now in
    let own = c.requires.cells in
    (named c.args.self.now.layout.now.raw own.0 own.2 own.1 found.definition found.content.now c.args.named.now found.whole own.3).inside

pub returns-in_err-put_cells : goal.returns-in_err-put_cells
returns-in_err-put_cells g c = λ known names place own.
    let found = c.args.found.now in
    let line = line_shows c.args.self.now.layout.now [] found.definition c.args.self.now.layout.now.fields.now c.as_slice-places.result.now c.args.time c.args.plan.now.arch
    found.content.now c.requires.plan.arch (omega (arith, found.whole, all_sizes found.definition)) c.requires.numbers
    (rw c.as_slice-places.ensures.value c.requires.plan.places) in
    tokens_then (tokens_text c.in_ok-put.ensures)
    (tokens_stop c.from_residual-in_err-put_cells.ensures.0 (tokens_same c.in_err-put_cells.ensures line) _)

pub returns-in_err-put_named_cells : goal.returns-in_err-put_named_cells
returns-in_err-put_named_cells g c = λ known names place own.
    let found = c.args.found.now in
    let line = line_shows c.args.self.now.layout.now [] found.definition c.args.self.now.layout.now.fields.now c.as_slice-places.result.now c.args.time c.args.plan.now.arch
    found.content.now c.requires.plan.arch (omega (arith, found.whole, all_sizes found.definition)) c.requires.numbers
    (rw c.as_slice-places.ensures.value c.requires.plan.places) in
    let shown = named c.args.self.now.layout.now.raw known place names found.definition found.content.now c.args.named.now found.whole own in
    let cells = ap (λ arch. tokens_of c.args.self.now.layout.now.raw (spread c.args.named.now.cells.items c.args.named.now.rest) arch found.content.now) c.requires.plan.arch ∙ shown.shows c.args.time in
    tokens_then (tokens_text c.in_ok-put.ensures) (tokens_then (tokens_same c.in_ok-put_cells.ensures line)
    (tokens_stop c.from_residual-in_err-put_named_cells.ensures.0 (tokens_same c.in_err-put_named_cells.ensures cells) _))

pub returns : goal.returns
returns g c = λ known names place own.
    let found = c.args.found.now in
    let line = line_shows c.args.self.now.layout.now [] found.definition c.args.self.now.layout.now.fields.now c.as_slice-places.result.now c.args.time c.args.plan.now.arch
    found.content.now c.requires.plan.arch (omega (arith, found.whole, all_sizes found.definition)) c.requires.numbers
    (rw c.as_slice-places.ensures.value c.requires.plan.places) in
    let shown = named c.args.self.now.layout.now.raw known place names found.definition found.content.now c.args.named.now found.whole own in
    let cells = ap (λ arch. tokens_of c.args.self.now.layout.now.raw (spread c.args.named.now.cells.items c.args.named.now.rest) arch found.content.now) c.requires.plan.arch ∙ shown.shows c.args.time in
    tokens_then (tokens_text c.in_ok-put.ensures) (tokens_then (tokens_same c.in_ok-put_cells.ensures line)
    (tokens_then (tokens_same c.in_ok-put_named_cells.ensures cells) (tokens_text c.put-2.ensures)))
