use Rattle.std.proofs.Common.{◌≡◌, false, length, replicate}
use Rattle.fit_mending.specs.Form.{are_usual as are_usual_of}
use Rattle.fit_mending.proofs.layout.are_usual.Given as goal

abbrev pub invariant-loop-left : goal.invariant-loop-left
invariant-loop-left l =
    (length l.seen ≡ 256) × (are_usual_of l.left l.seen l.rest ≡ are_usual_of l.count (replicate 256 false) l.fields)

abbrev pub decreases-loop-left : goal.decreases-loop-left
decreases-loop-left l = l.left
