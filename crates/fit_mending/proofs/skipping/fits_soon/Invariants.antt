use Rattle.fit_mending.specs.Private.Counting.{KeepsLooks}
use Rattle.fit_mending.proofs.skipping.fits_soon.Given as goal

abbrev pub invariant-loop-place : goal.invariant-loop-place
invariant-loop-place l = KeepsLooks l.initial.looks l.looks 0
