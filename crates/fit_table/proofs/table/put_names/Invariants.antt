use Rattle.std.proofs.Common.{length, []}
use Rattle.fit_table.specs.Table.{names_from}
use Rattle.fit_text.proofs.PenLemmas.{Leaves}
use Rattle.fit_table.proofs.table.put_names.Given as goal

abbrev pub invariant-loop-left : goal.invariant-loop-left
invariant-loop-left g l =
    Leaves l.initial.pen l.pen (names_from l.layout [] l.layout.fields.now) (names_from l.layout l.front l.left)

abbrev pub decreases-loop-left : goal.decreases-loop-left
decreases-loop-left g l = length l.left
