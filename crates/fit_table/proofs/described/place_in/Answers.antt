use Rattle.std.proofs.Common.{ap, ◌∙◌, arith}
use Rattle.fit_columns.proofs.PlaceLemmas.{sizes, all_sizes}
use Rattle.fit_table.proofs.described.place_in.Goals as goal

pub new-requires : goal.new-requires
new-requires c =
    omega (arith, c.requires, ap sizes (c.as_slice.ensures.value ∙ c.fields_here.ensures), all_sizes c.args.definition.now)

pub returns : goal.returns
returns c = rw (c.as_slice.ensures.value, c.fields_here.ensures, c.from.ensures) at c.new.ensures
