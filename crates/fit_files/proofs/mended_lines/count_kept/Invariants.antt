use Rattle.std.proofs.Common.{◌≡◌, ◌+◌, ◌≤◌, length}
use Rattle.fit_files.specs.Printed.Mended.{kept_count}
use Rattle.fit_files.proofs.mended_lines.count_kept.Given as goal

abbrev pub invariant-loop-rest : goal.invariant-loop-rest
invariant-loop-rest l =
    (l.count + kept_count l.rest ≡ kept_count l.pieces) × (l.count + length l.rest ≤ length l.pieces)

abbrev pub decreases-loop-rest : goal.decreases-loop-rest
decreases-loop-rest l = length l.rest
