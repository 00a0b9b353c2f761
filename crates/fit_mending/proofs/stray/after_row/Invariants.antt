use Rattle.fit_mending.specs.Private.Counting.{KeepsLooks}
use Rattle.fit_mending.specs.Private.Looking.{IsEndOf}
use Rattle.fit_mending.proofs.stray.after_row.Given as goal

abbrev pub invariant-loop : goal.invariant-loop
invariant-loop l = IsEndOf l.initial.rest l.rest × KeepsLooks l.initial.looks l.looks 0
