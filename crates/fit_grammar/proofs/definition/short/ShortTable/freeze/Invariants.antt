use Rattle.std.proofs.Common.{◌≡◌, ℕ, ◌<◌, take, length}
use Rattle.std.specs.Prelude.{slice_index_or}
use Rattle.fit_grammar.specs.Calls.FrozenTable.{table_in, no_definition, IsPossible}
use Rattle.fit_grammar.proofs.definition.short.ShortTable.freeze.Given as goal

abbrev pub invariant-loop-k : goal.invariant-loop-k
invariant-loop-k l =
    (length l.numbers ≡ 16) × (take l.k (table_in l.numbers) ≡ take l.k l.self-inside.slots)
    × ((k : ℕ) → k < l.k → IsPossible (slice_index_or l.numbers k no_definition))
