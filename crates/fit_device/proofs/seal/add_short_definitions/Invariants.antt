use Rattle.std.proofs.Common.{◌≡◌, take}
use Rattle.std.specs.List.{fold}
use Rattle.fit_device.specs.Seal.{with_short_definition}
use Rattle.fit_device.proofs.seal.add_short_definitions.Given as goal

abbrev pub invariant-loop-definition : goal.invariant-loop-definition
invariant-loop-definition l = l.check ≡ fold with_short_definition l.fn.check (take l.definition-index l.definitions)
