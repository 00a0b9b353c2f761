use Rattle.std.proofs.Common.{◌≡◌, ◌++◌, length, map}
use Rattle.fit_commands.specs.JoinedFile.{part_lent}
use Rattle.fit_commands.proofs.join.parts_of.Given as goal

abbrev pub invariant-loop-rest : goal.invariant-loop-rest
invariant-loop-rest l = l.parts.items ++ map part_lent l.rest ≡ map part_lent l.files

abbrev pub decreases-loop-rest : goal.decreases-loop-rest
decreases-loop-rest l = length l.rest
