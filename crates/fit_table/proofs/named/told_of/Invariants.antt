use Rattle.std.proofs.Common.{◌≡◌, ◌+◌, ◌≤◌, ◌++◌, length, map}
use Rattle.fit_table.specs.NamedPlans.{told_by}
use Rattle.fit_table.proofs.NamedLemmas.{seen}
use Rattle.fit_table.proofs.named.told_of.Given as goal

abbrev pub invariant-loop-left : goal.invariant-loop-left
invariant-loop-left l = record {
  told : map seen l.told.items ++ told_by l.known l.place l.left ≡ told_by l.known l.place l.fields;
  few : length l.told.items + length l.left ≤ 255;
}

abbrev pub decreases-loop-left : goal.decreases-loop-left
decreases-loop-left l = length l.left
