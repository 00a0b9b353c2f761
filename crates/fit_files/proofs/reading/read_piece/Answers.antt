use Rattle.std.proofs.Common.{Ok, Err}
use Rattle.std.specs.declared.io.Error.{Error}
use Rattle.fit_files.proofs.Pieces.{reads_then}
use Rattle.fit_files.proofs.reading.read_piece.Goals as goal

pub returns-in-Ok-clause-bytes : goal.returns-in-Ok-clause-bytes
returns-in-Ok-clause-bytes g c = reads_then {E = Error} _ _ _ (Ok c.in-Ok.taken) _ c.loop.invariant c.in-Ok.ensures.bytes

pub returns-in-Err-2-clause-bytes : goal.returns-in-Err-2-clause-bytes
returns-in-Err-2-clause-bytes g c = reads_then _ _ _ (Err c.in-Err-2.error) c.read.new.buf c.loop.invariant c.in-Err-2.ensures.bytes
