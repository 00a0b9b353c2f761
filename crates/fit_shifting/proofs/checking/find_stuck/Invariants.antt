use Rattle.std.proofs.Common.{◌≡◌}
use Rattle.fit_grammar.specs.Calls.LentItem.{messages_in}
use Rattle.fit_shifting.specs.Private.Read.{IsReadTo}
use Rattle.fit_shifting.proofs.checking.find_stuck.Given as goal

abbrev pub invariant-loop-item : goal.invariant-loop-item
invariant-loop-item l = record {
  messages : l.messages ≡ messages_in l.item-iterator;
  read : IsReadTo l.bytes l.fn.file l.shift l.place l.item-iterator;
}
