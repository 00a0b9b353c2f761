use Rattle.std.proofs.Common.{◌≡◌, ◌-◌, ◌<◌, ◌≤◌, ◌++◌, ℕ, List, [], length, drop}
use Rattle.fit_grammar.specs.Private.Feeding.{StandsBefore, GoesOnFrom}
use Rattle.fit_grammar.proofs.file.taking.take_items.Given as goal

abbrev pub invariant-loop-reading : goal.invariant-loop-reading
invariant-loop-reading l = record {
  same : GoesOnFrom l.initial.reading l.reading;
  carry : l.reading.carry ≡ l.initial.reading.carry;
  later : l.initial.reading.at ≤ l.reading.at;
  within : l.used ≤ length l.bytes;
  closing : l.reading.at < l.reading.end → l.reading.closing.items ≡ [];
  stands : (b : List ℕ) → StandsBefore b l.initial.reading (l.initial.reading.closing.items ++ l.bytes)
      → StandsBefore b l.reading (l.reading.closing.items ++ drop l.used l.bytes);
}

abbrev pub decreases-loop-reading : goal.decreases-loop-reading
decreases-loop-reading l = l.reading.end - l.reading.at
