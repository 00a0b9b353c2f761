use Rattle.std.proofs.Common.{◌≡◌, length}
use Rattle.fit_grammar.specs.Calls.LentItem.{messages_in}
use Rattle.fit_grammar.proofs.message.row.MessagesIterator.next.Given as goal

abbrev pub invariant-loop-item : goal.invariant-loop-item
invariant-loop-item l = messages_in l.self-inside.items ≡ messages_in l.initial.self-inside.items

abbrev pub decreases-loop-item : goal.decreases-loop-item
decreases-loop-item l = length l.self-inside.items
