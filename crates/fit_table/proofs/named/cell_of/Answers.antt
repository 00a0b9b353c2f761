use Rattle.std.proofs.Common.{◌∙◌, map, drop, arith}
use Rattle.fit_table.proofs.NamedLemmas.{seen, no_field, read_no_field}
use Rattle.fit_table.proofs.named.cell_of.Goals as goal

pub returns-in_default-clause-cell : goal.returns-in_default-clause-cell
returns-in_default-clause-cell c = record {
  inside = omega arith;
  holds = λ arch content.
      c.loop-fields_left.invariant.rest arch content
      ∙ read_no_field (map seen c.loop-fields_left.left.now) c.args.name.now _
      (no_field arch c.loop-fields_left.fields_left.now (drop c.loop-fields_left.at content) c.in_default.len_below);
}
