use Rattle.std.proofs.Common.{length}
use Rattle.fit_grammar.proofs.Encoder.Output.{Leaves}
use Rattle.fit_grammar.proofs.sink.AnySink.put.Given as goal

abbrev pub invariant-loop-rest : goal.invariant-loop-rest
invariant-loop-rest g l = Leaves (g.W.Write.contents l.initial.self) (g.W.Write.contents l.self) l.bytes l.rest

abbrev pub decreases-loop-rest : goal.decreases-loop-rest
decreases-loop-rest g l = length l.rest
