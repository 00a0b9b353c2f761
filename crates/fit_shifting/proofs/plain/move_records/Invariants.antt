use Rattle.fit_shifting.specs.Private.Plain.{MovedUpTo}
use Rattle.fit_shifting.proofs.plain.move_records.Given as goal

abbrev pub invariant-loop-item : goal.invariant-loop-item
invariant-loop-item l = MovedUpTo l.shift l.fn.file l.records l.at l.timed l.item-iterator
