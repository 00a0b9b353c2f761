use Rattle.std.proofs.Common.{length}
use Rattle.fit_activity.proofs.Spelling.Fields.{IsPutting}
use Rattle.fit_activity.proofs.speaking.speech.SpokenMessage.put_all.Given as goal

abbrev pub invariant-loop-rest : goal.invariant-loop-rest
invariant-loop-rest l = IsPutting l.initial.self l.self l.initial.rest l.rest

abbrev pub decreases-loop-rest : goal.decreases-loop-rest
decreases-loop-rest l = length l.rest
