use Rattle.std.proofs.Common.{◌≡◌, ℕ, ◌+◌, length, Option}
use Rattle.std.specs.List.{flat_map, enumerate_from}
use Rattle.fit_grammar.specs.declared.definition.Definition.{Definition}
use Rattle.fit_grammar.specs.Format.Message.{messages_of}
use Rattle.fit_grammar.specs.Calls.LentItem.{AllUnder, messages_in}
use Rattle.fit_text.specs.Plan.{ArePlansFor}
use Rattle.fit_text.specs.Form.{line_of, numbered}
use Rattle.fit_text.proofs.PenLemmas.{Leaves}
use Rattle.fit_text.proofs.form.file.put_messages.Given as goal

abbrev pub invariant-loop-item : goal.invariant-loop-item
invariant-loop-item g l =
    (definition_for : ℕ → Option Definition) × record {
      under : AllUnder definition_for l.item-iterator;
      plans : ArePlansFor definition_for l.plans;
      utc : l.plans.utc ≡ l.utc;
      empty : l.plans.empty ≡ (g.F.Form.form l.initial.form).notation.empty;
      same : g.F.Form.form l.form ≡ g.F.Form.form l.initial.form;
      put : Leaves l.initial.pen l.pen (numbered (line_of (g.F.Form.form l.initial.form) l.utc) (messages_of l.file.items))
          (flat_map (λ row. line_of (g.F.Form.form l.initial.form) l.utc row.0 row.1) (enumerate_from l.number (messages_in l.item-iterator)));
      count : l.number + length (messages_in l.item-iterator) ≡ length (messages_of l.file.items);
    }
