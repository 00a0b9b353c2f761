use Rattle.std.proofs.Common.{codes}
use Rattle.std.specs.List.{join_by}
use Rattle.fit_base.specs.Value.{numbers, value_size, count_of}
use Rattle.fit_text.proofs.PenLemmas.{Leaves}
use Rattle.fit_text.proofs.ValueLemmas.{rest_text}
use Rattle.fit_text.proofs.value.number.put_each.Given as goal

abbrev pub invariant-loop-i : goal.invariant-loop-i
invariant-loop-i g l =
    let ns = numbers l.field.arch (value_size l.field) (count_of l.field) l.field.bytes in
    let number = g.N.Numbers.number l.writer l.base in
    Leaves l.initial.pen l.pen (join_by number (codes ",") ns) (rest_text number ns l.i)
