use Rattle.std.proofs.Common.{◌≡◌, ℕ, ◌+◌, ◌<◌, ◌++◌, ◌||◌, max, List, length, get_or, Option}
use Rattle.fit_grammar.specs.declared.definition.Definition.{Definition}
use Rattle.fit_grammar.specs.Format.Message.{messages_of}
use Rattle.fit_grammar.specs.Calls.LentItem.{AllUnder, items_lent, messages_in}
use Rattle.fit_columns.specs.Fields.{held_in, timed_in}
use Rattle.fit_columns.specs.Places.{ArePlansFor}
use Rattle.fit_columns.specs.Rows.{Row, rows_from, rows_of}
use Rattle.fit_columns.proofs.walk.walk.Given as goal

abbrev pub invariant-loop-item : goal.invariant-loop-item
invariant-loop-item g l =
    (definition_for : ℕ → Option Definition) × (taken : List Row) × record {
      under : AllUnder definition_for l.item-iterator;
      plans : ArePlansFor l.codes l.held definition_for l.plans;
      next : l.next + length (messages_in l.item-iterator) ≡ length (messages_of l.file.items);
      has_taken : g.T.TakesRows.has_taken l.rows l.codes taken;
      keeps : g.T.TakesRows.keeps l.rows ≡ g.T.TakesRows.keeps l.initial.rows;
      all : taken ++ rows_from l.message l.next l.item-iterator ≡ rows_of l.message (items_lent l.file.items);
      timed : (l.timed || timed_in l.message l.item-iterator) ≡ timed_in l.message (items_lent l.file.items);
      held : (code : ℕ) → code < length l.initial.held →
          max (get_or l.held code 0) (held_in l.message l.item-iterator code) ≡ held_in l.message (items_lent l.file.items) code;
    }
