use Rattle.std.proofs.Common.{arith}
use Rattle.std.proofs.lemmas.Grind.{common_steps}
use Rattle.fit_grammar.proofs.Encoder.Output.{leaves_rest}
use Rattle.fit_grammar.proofs.sink.AnySink.put.Goals as goal

pub loop-rest-preserved : goal.loop-rest-preserved
loop-rest-preserved g c =
    leaves_rest _ _ c.loop-rest.invariant c.in-Ok.ensures.bytes (grind (arith, common_steps))
