use Rattle.std.proofs.Common.{◌≡◌}
use Rattle.fit_grammar.specs.Format.Message.{messages_of}
use Rattle.fit_joining.specs.Part.{first_distance}
use Rattle.fit_joining.proofs.tally.first_distance.Given as goal

abbrev pub invariant-loop-message : goal.invariant-loop-message
invariant-loop-message l = first_distance l.message-iterator ≡ first_distance (messages_of l.part.items)
