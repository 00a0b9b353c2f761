use Rattle.std.specs.Io.KnownBytes.{Keeps}
use Rattle.fit_files.proofs.reading.read_piece.Given as goal

-- a read that was interrupted took nothing
abbrev pub invariant-loop : goal.invariant-loop
invariant-loop g l = Keeps (g.T.Read.remaining l.initial.from) (g.T.Read.remaining l.from)
