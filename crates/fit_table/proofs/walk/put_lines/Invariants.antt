use Rattle.std.proofs.Common.{◌≡◌, ◌+◌, ℕ, [], Option, length, map}
use Rattle.fit_grammar.specs.declared.definition.Definition.{Definition}
use Rattle.fit_grammar.specs.Format.Message.{messages_of}
use Rattle.fit_grammar.specs.Calls.LentItem.{AllUnder, messages_in}
use Rattle.fit_columns.specs.Places.{ArePlansFor}
use Rattle.fit_table.specs.NamedPlans.{AreNamedFor}
use Rattle.fit_table.specs.Table.{lines_by}
use Rattle.fit_table.proofs.NamedLemmas.{name_of}
use Rattle.fit_table.proofs.TokenLemmas.{LeavesTokens}
use Rattle.fit_table.proofs.walk.put_lines.Given as goal

abbrev pub invariant-loop-item : goal.invariant-loop-item
invariant-loop-item g l =
    (definition_for : ℕ → Option Definition) × record {
      under : AllUnder definition_for l.item-iterator;
      plans : ArePlansFor l.codes [] definition_for l.plans;
      named : AreNamedFor l.known (map name_of l.names) l.next definition_for l.named;
      count : l.next + length (messages_in l.item-iterator) ≡ length (messages_of l.file.items);
      put : LeavesTokens l.initial.pen l.pen (lines_by (g.L.Line.tokens l.line l.known (map name_of l.names)) l.message 0 (messages_of l.file.items))
          (lines_by (g.L.Line.tokens l.line l.known (map name_of l.names)) l.message l.next (messages_in l.item-iterator));
    }
