use Rattle.std.proofs.Common.{◌≡◌, ◌+◌, length, map}
use Rattle.fit_columns.specs.Places.{put_cells}
use Rattle.fit_columns.specs.Values.{place_head}
use Rattle.fit_columns.proofs.values.put_heads.Given as goal

abbrev pub invariant-loop-left : goal.invariant-loop-left
invariant-loop-left l = record {
  count : l.i + length l.left ≡ length l.places;
  put : put_cells l.room l.row l.i (map (place_head l.arch l.message) l.left) l.heads
      ≡ put_cells l.room l.row 0 (map (place_head l.arch l.message) l.places) l.initial.heads;
}

abbrev pub decreases-loop-left : goal.decreases-loop-left
decreases-loop-left l = length l.left
