use Rattle.std.proofs.Common.{◌≡◌, ◌*◌, ◌++◌, take, drop, flat_map}
use Rattle.std.specs.List.{AllByRecursion}
use Rattle.fit_grammar.specs.Format.Item.{field_bytes}
use Rattle.fit_grammar.specs.Calls.Possible.{FieldFits}
use Rattle.fit_grammar.proofs.item.writing.write_fields.Given as goal

abbrev pub invariant-loop-i : goal.invariant-loop-i
invariant-loop-i l =
    (l.out ≡ flat_map field_bytes (take l.i l.fields) ++ drop (3 * l.i) l.initial.out) × AllByRecursion FieldFits (take l.i l.fields)
