use Rattle.std.proofs.Common.{◌≡◌, ◌+◌, length}
use Rattle.fit_joining.specs.Compared.{first_misfit, misfit_after}
use Rattle.fit_joining.proofs.misfit.first_misfit.Given as goal

abbrev pub invariant-loop-rest : goal.invariant-loop-rest
invariant-loop-rest l = record {
  found : misfit_after l.stated l.number l.rest ≡ first_misfit l.parts;
  counted : l.number + length l.rest ≡ length l.parts;
}

abbrev pub decreases-loop-rest : goal.decreases-loop-rest
decreases-loop-rest l = length l.rest
