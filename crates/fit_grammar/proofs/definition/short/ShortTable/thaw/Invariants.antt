use Rattle.std.proofs.Common.{◌≡◌, take, length}
use Rattle.fit_grammar.specs.Calls.FrozenTable.{table_in}
use Rattle.fit_grammar.proofs.definition.short.ShortTable.thaw.Given as goal

abbrev pub invariant-loop-k : goal.invariant-loop-k
invariant-loop-k l = (length l.self-inside.slots ≡ 16) × (take l.k l.self-inside.slots ≡ take l.k (table_in l.numbers))
