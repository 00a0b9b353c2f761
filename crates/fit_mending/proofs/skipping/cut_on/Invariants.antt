use Rattle.std.proofs.Common.{◌≡◌, ◌≤◌, ◌+◌, ◌-◌, ◌*◌, List, length}
use Rattle.fit_grammar.specs.Calls.Table.{definition_in}
use Rattle.fit_mending.specs.declared.pieces.Piece.{Piece}
use Rattle.fit_mending.specs.Private.Counting.{beyond}
use Rattle.fit_mending.specs.Private.Cut.{CutsTo, HasAdded, ReadsUpTo}
use Rattle.fit_mending.proofs.skipping.cut_on.Given as goal

abbrev pub invariant-loop-at : goal.invariant-loop-at
invariant-loop-at g l = (l.at ≤ length l.bytes) × (g.T.TakesPieces.place l.pieces ≡ g.T.TakesPieces.place l.initial.pieces)
    × ((taken : List Piece) → g.T.TakesPieces.has_taken l.initial.pieces taken
    → (more : List Piece) × g.T.TakesPieces.has_taken l.pieces more
    × CutsTo l.bytes l.from (definition_in l.initial.latest) taken l.at (definition_in l.latest) more × HasAdded taken more
    × ReadsUpTo l.bytes (definition_in l.initial.latest) l.initial.progress taken (definition_in l.latest) l.progress more)
    × (l.looks.allowed ≤ 2000000 + 64 * l.at) × (beyond l.looks ≤ 275 + 275 * l.at)
    × (l.initial.looks.taken ≤ l.looks.taken)

abbrev pub decreases-loop-at : goal.decreases-loop-at
decreases-loop-at g l = length l.bytes - l.at
