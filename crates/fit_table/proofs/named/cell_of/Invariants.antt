use Rattle.std.proofs.Common.{◌≡◌, ◌+◌, ℕ, List, length, drop, map}
use Rattle.fit_base.specs.declared.order.Arch.{Arch}
use Rattle.fit_grammar.specs.Format.Message.{developer_of}
use Rattle.fit_table.specs.Named.{read_in}
use Rattle.fit_table.proofs.NamedLemmas.{seen, sizes}
use Rattle.fit_table.proofs.named.cell_of.Given as goal

abbrev pub invariant-loop-fields_left : goal.invariant-loop-fields_left
invariant-loop-fields_left l = record {
  at_is : l.at + sizes l.fields_left ≡ l.start + sizes l.fields;
  rest : (arch : Arch) (content : List ℕ) → read_in (map seen l.told) l.name (developer_of arch l.fields (drop l.start content))
      ≡ read_in (map seen l.left) l.name (developer_of arch l.fields_left (drop l.at content));
}

abbrev pub decreases-loop-fields_left : goal.decreases-loop-fields_left
decreases-loop-fields_left l = length l.fields_left
