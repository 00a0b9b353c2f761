use Rattle.std.proofs.Common.{◌≡◌, true, take, eqb}
use Rattle.std.specs.List.{list_all}
use Rattle.fit_mending.proofs.form.are_all.Given as goal

abbrev pub invariant-loop-other : goal.invariant-loop-other
invariant-loop-other l = list_all (λ other. eqb other l.byte) (take l.other-index l.bytes) ≡ true
