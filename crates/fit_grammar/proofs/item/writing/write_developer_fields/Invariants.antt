use Rattle.std.proofs.Common.{◌≡◌, ◌*◌, ◌++◌, take, drop, flat_map}
use Rattle.std.specs.List.{AllByRecursion}
use Rattle.fit_grammar.specs.Format.Item.{developer_bytes}
use Rattle.fit_grammar.specs.Calls.Possible.{DeveloperFieldFits}
use Rattle.fit_grammar.proofs.item.writing.write_developer_fields.Given as goal

abbrev pub invariant-loop-i : goal.invariant-loop-i
invariant-loop-i l =
    (l.out ≡ flat_map developer_bytes (take l.i l.fields) ++ drop (3 * l.i) l.initial.out)
    × AllByRecursion DeveloperFieldFits (take l.i l.fields)
