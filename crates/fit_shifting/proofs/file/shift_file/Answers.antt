use Rattle.std.proofs.Common.{◌≡◌, [], true, sym, ap, subst, ◌∙◌}
use Rattle.std.specs.List.{AllByRecursion}
use Rattle.fit_grammar.specs.Format.Message.{Message}
use Rattle.fit_grammar.specs.Calls.LentItem.{items_lent}
use Rattle.fit_grammar.specs.Format.File.{FileValue}
use Rattle.fit_grammar.proofs.KeptRow.Lent.{lent_messages}
use Rattle.fit_shifting.specs.Moved.{can_move}
use Rattle.fit_shifting.specs.Stuck.{IsStuck, stuck_at}
use Rattle.fit_shifting.proofs.PassedItems.{none_stuck}
use Rattle.fit_shifting.proofs.file.shift_file.Goals as goal

pub returns-in-Ok-moved_file-clause-movable : goal.returns-in-Ok-moved_file-clause-movable
returns-in-Ok-moved_file-clause-movable c =
    let v = c.args.file.now in
    subst (AllByRecursion {X = Message} (λ m. can_move c.args.shift m ≡ true)) (lent_messages [] 0 v.items)
    (none_stuck c.args.shift v.frame.header_size (items_lent v.items)
    (ap (stuck_at c.args.shift) (sym c.lend.ensures) ∙ c.find_stuck.ensures.free c.in_default.is))

pub returns-in-Some-clause-refused : goal.returns-in-Some-clause-refused
returns-in-Some-clause-refused c =
    subst (λ (v : FileValue). IsStuck c.args.bytes.now v c.args.shift c.in-Some.place) c.lend.ensures c.in-Some.ensures.stuck
