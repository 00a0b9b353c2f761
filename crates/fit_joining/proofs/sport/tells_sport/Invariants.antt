use Rattle.std.proofs.Common.{◌≡◌}
use Rattle.fit_grammar.specs.Format.Message.{messages_of}
use Rattle.fit_joining.specs.Joined.{tells_sport}
use Rattle.fit_joining.proofs.sport.tells_sport.Given as goal

abbrev pub invariant-loop-message : goal.invariant-loop-message
invariant-loop-message l = tells_sport l.message-iterator ≡ tells_sport (messages_of l.file.items)
