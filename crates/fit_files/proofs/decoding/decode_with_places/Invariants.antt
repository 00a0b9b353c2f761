use Rattle.std.proofs.Common.{◌≡◌, ◌-◌, ◌≤◌, ℕ, List, length}
use Rattle.std.specs.Io.KnownBytes.{Consumes}
use Rattle.fit_grammar.specs.Calls.Fed.{WasFed}
use Rattle.fit_files.proofs.decoding.decode_with_places.Given as goal

-- all that was taken from the input was fed
abbrev pub invariant-loop-taken : goal.invariant-loop-taken
invariant-loop-taken g l =
    (fed : List ℕ) × WasFed fed l.decoder × Consumes (g.T.Read.remaining l.initial.from) (g.T.Read.remaining l.from) fed
    × (length fed ≡ l.count) × (l.count ≤ l.most)

abbrev pub decreases-loop-taken : goal.decreases-loop-taken
decreases-loop-taken g l = l.most - l.count
