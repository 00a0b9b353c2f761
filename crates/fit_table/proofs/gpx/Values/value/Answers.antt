use Rattle.std.proofs.Common.{get_or, sym, ap, ◌∙◌, arith}
use Rattle.fit_columns.specs.declared.place.Kind.TheVariants.{Unsigned}
use Rattle.fit_columns.specs.declared.place.Place.{Place}
use Rattle.fit_columns.specs.Fields.{fields_here}
use Rattle.fit_columns.specs.Places.{cell_with, place_cell}
use Rattle.fit_columns.proofs.PlaceLemmas.{all_sizes}
use Rattle.fit_columns.proofs.PlanLemmas.{cell_shown}
use Rattle.fit_table.specs.Gpx.{fields, value}
use Rattle.fit_table.proofs.GpxLemmas.{place_at, small_at}
use Rattle.fit_table.proofs.gpx.Values.value.Goals as goal

pub cell-requires-clause-sized : goal.cell-requires-clause-sized
cell-requires-clause-sized c =
    let own = c.self.inside in
    rw c.as_slice.ensures.value
    (place_at (fields_here own.found.now.definition) fields own.plan.now.places.items c.args.at _ c.self.invariant.places c.requires).sized

-- what stands for an element past the end
abbrev any : Place
any = record { at = 0; kind = Unsigned 0; number = 0; size = 0; base = 0 }

pub cell-requires-clause-inside : goal.cell-requires-clause-inside
cell-requires-clause-inside c =
    let own = c.self.inside in
    let place = place_at (fields_here own.found.now.definition) fields own.plan.now.places.items c.args.at any c.self.invariant.places c.requires in
    rw c.as_slice.ensures.value (omega (arith, own.found.now.whole, all_sizes own.found.now.definition, place.inside))

pub returns-clause-value : goal.returns-clause-value
returns-clause-value c =
    let own = c.self.inside in
    let d = own.found.now.definition in
    let content = own.found.now.content.now in
    let at : Place = get_or own.plan.now.places.items c.args.at any in
    let place = place_at (fields_here d) fields own.plan.now.places.items c.args.at any c.self.invariant.places c.requires in
    c.cell.ensures.value
    ∙ rw c.as_slice.ensures.value
    (ap (λ arch. cell_with own.time at.number (place_cell at arch content)) c.self.invariant.arch
    ∙ sym (cell_shown d (get_or fields c.args.at 0) at own.time content (omega (arith, own.found.now.whole, all_sizes d)) (small_at c.args.at) place))
    ∙ ap (value _) c.self.view_is
