use Rattle.std.proofs.Common.{◌≡◌}
use Rattle.std.specs.List.{fold}
use Rattle.fit_grammar.specs.Format.Message.{messages_of}
use Rattle.fit_joining.specs.Timer.{span_after, span_of}
use Rattle.fit_joining.proofs.span.span_of.Given as goal

abbrev pub invariant-loop-message : goal.invariant-loop-message
invariant-loop-message l =
    fold (span_after l.keeps_laps) l.span l.message-iterator ≡ span_of l.keeps_laps (messages_of l.file.items)
