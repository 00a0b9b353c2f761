use Rattle.std.proofs.Common.{rules, ◌≡◌, ℕ, ◌+◌, ◌-◌, List, length, take, drop, refl, sym, ap, ◌∙◌, arith}
use Rattle.std.proofs.lemmas.Bool.{eq-eqb}
use Rattle.std.proofs.lemmas.List.{length-take-le, length-take}
use Rattle.std.proofs.lemmas.Grind.{common_steps}
use Rattle.fit_grammar.specs.Format.Item.{Defines, Data, SpellsDefinition}
use Rattle.fit_grammar.specs.Format.Records.{in_force}
use Rattle.fit_grammar.specs.Calls.Step.{ItemAtFront}
use Rattle.fit_grammar.specs.Private.Feeding.{with_place}
use Rattle.fit_grammar.proofs.OneItem.Least.{definition_whole}
use Rattle.fit_grammar.proofs.Decoding.Reached.{spelled_size}
use Rattle.fit_grammar.proofs.file.taking.take_item.Goals as goal

spelled : (c : goal.After-definition-in-Definition-1) → SpellsDefinition c.read-definition.result (take c.in_ok-used.used c.args.window.now)
spelled c =
    let whole = c.in_ok-used.ensures.whole (in_force c.args.file.now.items) (sym c.least_length.ensures.answer) in
    definition_whole (in_force c.args.file.now.items) c.args.window.now c.in_ok-used.used c.in-Definition.field-0 c.in-Definition.field-1
    c.read-definition.result whole.least whole.there c.in-Definition.ensures (c.read-definition.ensures ∙ c.new.ensures)

pub push_definition-requires-clause-fits : goal.push_definition-requires-clause-fits
push_definition-requires-clause-fits c =
    let whole = c.in_ok-used.ensures.whole (in_force c.args.file.now.items) (sym c.least_length.ensures.answer) in
    let own = take c.in_ok-used.used c.args.window.now in
    λ past. omega (
      arith,
      past,
      spelled_size (Defines c.read-definition.result) own (spelled c),
      length-take-le c.in_ok-used.used c.args.window.now whole.there,
      whole.inside,
      c.requires.fits,
    )

pub push_data-requires-clause-small : goal.push_data-requires-clause-small
push_data-requires-clause-small c =
    omega (arith, (c.in_ok-used.ensures.whole (in_force c.args.file.now.items) (sym c.least_length.ensures.answer)).inside, c.requires.fits, length-take (c.in_ok-used.used - 1) (drop 1 c.args.window.now))

pub returns-in_ok-push_definition-in-Definition-clause-taken : goal.returns-in_ok-push_definition-in-Definition-clause-taken
returns-in_ok-push_definition-in-Definition-clause-taken c =
    let whole = c.in_ok-used.ensures.whole (in_force c.args.file.now.items) (sym c.least_length.ensures.answer) in
    record {
      taken = record {
        item = Defines c.read-definition.result;
        at_front = record {
          within = whole.there;
          spelled = definition_whole (in_force c.args.file.now.items)
              c.args.window.now c.in_ok-used.used c.in-Definition.field-0 c.in-Definition.field-1 c.read-definition.result whole.least
              whole.there c.in-Definition.ensures (c.read-definition.ensures ∙ c.new.ensures);
          defined = tt;
        };
        inside = whole.inside;
        added = c.in_ok-push_definition-in-Definition.ensures.ok;
      };
      noted_is = c.in_ok-note-in-Definition.ensures
          ∙ ap (λ (n : ℕ). with_place c.args.places.now c.args.at n c.in_ok-used.used) c.size.ensures.size;
    }

-- a data message had as many bytes as it is written in
not_noted : (places : List ℕ) (at written used : ℕ) → used ≡ written → places ≡ with_place places at written used
not_noted places at written used same = rw (eq-eqb used written same) refl

data_there : (c : goal.In_ok-push_data-in-Data) → ItemAtFront (in_force c.args.file.now.items) c.args.window.now
    (Data c.in-Data.local c.in-Data.offset (take (c.in_ok-used.used - 1) (drop 1 c.args.window.now))) c.in_ok-used.used
data_there c = first_of (search rules, grind (arith, common_steps))

pub returns-in_ok-push_data-in-Data-clause-taken : goal.returns-in_ok-push_data-in-Data-clause-taken
returns-in_ok-push_data-in-Data-clause-taken c =
    let used = c.in_ok-used.used in
    let content = take (used - 1) (drop 1 c.args.window.now) in
    let there = data_there c in
    let size : used ≡ 1 + length content =
    omega (arith, there.within, length-take-le used c.args.window.now there.within, ap length there.spelled.laid_out) in
    record {
      taken = record {
        item = Data c.in-Data.local c.in-Data.offset content;
        at_front = there;
        inside = (c.in_ok-used.ensures.whole (in_force c.args.file.now.items) (sym c.least_length.ensures.answer)).inside;
        added = c.in_ok-push_data-in-Data.ensures.ok;
      };
      noted_is = not_noted c.args.places.now c.args.at (1 + length content) used size;
    }
