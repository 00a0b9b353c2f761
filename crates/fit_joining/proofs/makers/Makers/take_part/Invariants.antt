use Rattle.std.proofs.Common.{◌≡◌, fold}
use Rattle.fit_grammar.specs.Format.Message.{messages_of}
use Rattle.fit_grammar.specs.Calls.LentItem.{messages_in}
use Rattle.fit_joining.specs.Makers.{declared_after, declared_past}
use Rattle.fit_joining.proofs.makers.Makers.take_part.Given as goal

abbrev pub invariant-loop-item : goal.invariant-loop-item
invariant-loop-item l =
    fold declared_after (record { makers = l.self; given = l.given }) (messages_in l.item-iterator)
    ≡ declared_past l.fn.self (messages_of l.file.items)
