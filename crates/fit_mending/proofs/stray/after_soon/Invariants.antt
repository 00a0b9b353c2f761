use Rattle.fit_mending.specs.Private.Counting.{KeepsLooks}
use Rattle.fit_mending.proofs.stray.after_soon.Given as goal

abbrev pub invariant-loop-count : goal.invariant-loop-count
invariant-loop-count l = KeepsLooks l.initial.looks l.looks 0
