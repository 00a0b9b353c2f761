use Rattle.std.proofs.Common.{◌+◌, ◌≤◌, [], length}
use Rattle.fit_columns.specs.Places.{ArePlacesIn}
use Rattle.fit_table.specs.Table.{cells_at}
use Rattle.fit_table.proofs.LineLemmas.{cells_after}
use Rattle.fit_table.proofs.TokenLemmas.{LeavesTokens}
use Rattle.fit_table.proofs.table.put_cells.Given as goal

abbrev pub invariant-loop-left : goal.invariant-loop-left
invariant-loop-left g l = record {
  few : l.commas + length l.left ≤ length l.places + 1;
  inside : ArePlacesIn (length l.content) l.left;
  put : LeavesTokens l.initial.pen l.pen (cells_at l.layout l.arch l.time l.content [] l.places)
      (cells_after l.layout l.arch l.time l.content l.commas l.left);
}

abbrev pub decreases-loop-left : goal.decreases-loop-left
decreases-loop-left g l = length l.left
