use Rattle.std.proofs.Common.{◌≡◌}
use Rattle.fit_grammar.specs.Format.Message.{messages_of}
use Rattle.fit_joining.specs.Joined.{has_made_lap}
use Rattle.fit_joining.proofs.MadeLaps.{made_after}
use Rattle.fit_joining.proofs.laps.has_made_lap.Given as goal

abbrev pub invariant-loop-message : goal.invariant-loop-message
invariant-loop-message l = made_after l.has_lap l.message-iterator ≡ has_made_lap (messages_of l.file.items)
