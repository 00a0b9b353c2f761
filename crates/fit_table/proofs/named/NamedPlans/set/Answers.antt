use Rattle.std.proofs.Common.{map}
use Rattle.fit_table.proofs.NamedLemmas.{name_of, named_set}
use Rattle.fit_table.proofs.named.NamedPlans.set.Goals as goal

pub returns-clause-cells : goal.returns-clause-cells
returns-clause-cells c = λ definition_for found h.
    named_set c.args.known.now (map name_of c.args.names.now) c.args.place definition_for c.args.local c.args.definition.now c.args.self.now _
    c.from.result c.from.ensures found c.plan_for.ensures h
