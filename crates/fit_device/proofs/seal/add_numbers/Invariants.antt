use Rattle.std.proofs.Common.{◌≡◌, take}
use Rattle.std.specs.List.{fold}
use Rattle.fit_device.specs.Seal.{with_number}
use Rattle.fit_device.proofs.seal.add_numbers.Given as goal

abbrev pub invariant-loop-number : goal.invariant-loop-number
invariant-loop-number l = l.check ≡ fold with_number l.fn.check (take l.number-index l.numbers)
