use Rattle.std.proofs.Common.{◌≡◌, ◌∷◌, length, ap, ◌∙◌, arith, rules}
use Rattle.fit_grammar.proofs.Counted.{few_messages}
use Rattle.fit_grammar.specs.Calls.LentItem.{lent_item, messages_in}
use Rattle.fit_grammar.specs.Format.Message.{messages_of}
use Rattle.fit_table.specs.Described.{descriptions_of}
use Rattle.fit_table.proofs.LookupLemmas.{ascending}
use Rattle.fit_table.proofs.described.descriptions_of.Goals as goal

pub overflow_add-place : goal.overflow_add-place
overflow_add-place c =
    let steps = c.in-Some.ensures.steps ∙ ap (λ item. lent_item item ∷ c.next.new.self) c.in-Data.is in
    omega (
      arith,
      few_messages c.args.file.now.items,
      c.data_size.ensures,
      c.loop-item.invariant.count,
      ap (λ items. length (messages_in items)) steps,
    )

pub returns-clause-ascending : goal.returns-clause-ascending
returns-clause-ascending c =
    let is : c.loop-item.known.items ≡ descriptions_of (messages_of c.args.file.now.items) = search rules in
    rw is (ascending (messages_of c.args.file.now.items))
