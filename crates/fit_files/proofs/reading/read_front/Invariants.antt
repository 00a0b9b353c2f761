use Rattle.std.proofs.Common.{◌-◌, ◌≤◌, vec_len}
use Rattle.std.specs.Io.KnownBytes.{Consumes}
use Rattle.fit_files.proofs.reading.read_front.Given as goal

abbrev pub invariant-loop-taken : goal.invariant-loop-taken
invariant-loop-taken g l =
    Consumes (g.T.Read.remaining l.initial.from) (g.T.Read.remaining l.from) l.bytes.items × (vec_len l.bytes ≤ l.most)

abbrev pub decreases-loop-taken : goal.decreases-loop-taken
decreases-loop-taken g l = l.most - vec_len l.bytes
