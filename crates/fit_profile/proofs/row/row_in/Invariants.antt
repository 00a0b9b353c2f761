use Rattle.std.proofs.Common.{◌≡◌, length}
use Rattle.fit_profile.specs.Facts.{row_in, field_rows}
use Rattle.fit_profile.proofs.row.row_in.Given as goal

abbrev pub invariant-loop-rows : goal.invariant-loop-rows
invariant-loop-rows l = row_in (field_rows l.rows) l.number ≡ row_in (field_rows l.initial.rows) l.number

abbrev pub decreases-loop-rows : goal.decreases-loop-rows
decreases-loop-rows l = length l.rows
