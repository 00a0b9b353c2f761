use Rattle.std.proofs.Common.{◌≡◌, drop}
use Rattle.std.specs.List.{list_all}
use Rattle.fit_base.specs.Value.{numbers, value_size, count_of}
use Rattle.fit_table.specs.Cells.{is_none}
use Rattle.fit_table.proofs.array.are_none.Given as goal

abbrev pub invariant-loop-i : goal.invariant-loop-i
invariant-loop-i l =
    let ns = numbers l.field.arch (value_size l.field) (count_of l.field) l.field.bytes in
    list_all (is_none l.base) ns ≡ list_all (is_none l.base) (drop l.i ns)
