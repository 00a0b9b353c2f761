use Rattle.std.proofs.Common.{◌-◌, ◌≤◌, length}
use Rattle.fit_mending.proofs.Found.{AreFoundTo, HasRead}
use Rattle.fit_mending.proofs.finding.find_files.Given as goal

abbrev pub invariant-loop-at : goal.invariant-loop-at
invariant-loop-at l = AreFoundTo l.bytes 0 l.parts.items l.at × HasRead l.bytes l.at l.passed × (l.at ≤ length l.bytes)

abbrev pub decreases-loop-at : goal.decreases-loop-at
decreases-loop-at l = length l.bytes - l.at
