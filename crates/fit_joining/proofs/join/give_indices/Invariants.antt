use Rattle.std.proofs.Common.{◌≡◌, ◌++◌, map, take, drop}
use Rattle.fit_joining.specs.JoinedItems.{developer_given}
use Rattle.fit_joining.proofs.join.give_indices.Given as goal

abbrev pub invariant-loop-field : goal.invariant-loop-field
invariant-loop-field l =
    l.fields ≡ map (developer_given l.given) (take l.field-index l.initial.fields) ++ drop l.field-index l.initial.fields
