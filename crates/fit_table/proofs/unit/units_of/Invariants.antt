use Rattle.std.proofs.Common.{◌≡◌, ℕ, ◌<◌, ◌-◌, length, slice_index_or}
use Rattle.fit_table.specs.declared.unit.Unit.TheVariants.{Whole}
use Rattle.fit_table.specs.Unit.{unit_in}
use Rattle.fit_table.proofs.unit.units_of.Given as goal

abbrev pub invariant-loop-number : goal.invariant-loop-number
invariant-loop-number l = record {
  long : length l.units ≡ 256;
  all : (n : ℕ) → n < l.number → slice_index_or l.units n Whole ≡ unit_in l.layout n;
}

abbrev pub decreases-loop-number : goal.decreases-loop-number
decreases-loop-number l = 255 - l.number
