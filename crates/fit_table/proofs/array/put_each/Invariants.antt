use Rattle.std.proofs.Common.{[], drop}
use Rattle.fit_base.specs.Value.{numbers, value_size, count_of}
use Rattle.fit_table.specs.Cells.{values_from}
use Rattle.fit_table.proofs.TokenLemmas.{LeavesTokens}
use Rattle.fit_table.proofs.array.put_each.Given as goal

abbrev pub invariant-loop-i : goal.invariant-loop-i
invariant-loop-i g l =
    let ns = numbers l.field.arch (value_size l.field) (count_of l.field) l.field.bytes in
    LeavesTokens l.initial.pen l.pen (values_from l.empty l.unit l.base [] ns) (values_from l.empty l.unit l.base l.front (drop l.i ns))
