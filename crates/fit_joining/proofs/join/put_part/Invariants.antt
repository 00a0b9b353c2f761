use Rattle.fit_grammar.specs.Format.Encoding.{encoded_items}
use Rattle.fit_grammar.specs.Format.Message.{messages_of}
use Rattle.fit_grammar.specs.Calls.LentItem.{items_lent}
use Rattle.fit_joining.specs.Part.{tally_past}
use Rattle.fit_joining.specs.JoinedItems.{part_items}
use Rattle.fit_joining.specs.Private.Row.{LeavesPart}
use Rattle.fit_joining.proofs.join.put_part.Given as goal

abbrev pub invariant-loop-item : goal.invariant-loop-item
invariant-loop-item g l =
    LeavesPart (g.S.Sink.held l.initial.out) (g.S.Sink.held l.out) l.initial.checksum l.checksum
    (encoded_items (part_items l.fn.given l.fn.first (items_lent l.fn.part.items))) (tally_past l.fn.first (messages_of l.fn.part.items)) l.tally
    l.fn.given l.item-iterator
