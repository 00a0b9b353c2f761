use Rattle.std.proofs.Common.{◌≡◌, take}
use Rattle.std.specs.List.{fold}
use Rattle.fit_device.specs.Seal.{sealed_with}
use Rattle.fit_device.proofs.seal.add_definitions.Given as goal

abbrev pub invariant-loop-definition : goal.invariant-loop-definition
invariant-loop-definition l = l.check ≡ fold sealed_with l.fn.check (take l.definition-index l.definitions)
