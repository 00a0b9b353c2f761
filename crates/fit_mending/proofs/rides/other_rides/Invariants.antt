use Rattle.std.proofs.Common.{◌≡◌, ℕ, List, length}
use Rattle.fit_grammar.specs.Format.Item.{Item}
use Rattle.fit_grammar.specs.Format.Records.{in_force}
use Rattle.fit_grammar.specs.Calls.Table.{definition_in}
use Rattle.fit_mending.specs.Pieces.{ArePieces, AreWithin}
use Rattle.fit_mending.proofs.Others.{HasSaid}
use Rattle.fit_mending.proofs.rides.other_rides.Given as goal

abbrev pub invariant-loop-rest : goal.invariant-loop-rest
invariant-loop-rest l = AreWithin l.bytes l.rest
    × ((before : List Item) (from to : ℕ) (items : List Item) → definition_in l.known ≡ in_force before
    → ArePieces l.bytes from to before l.pieces items
    → HasSaid l.bytes l.own before l.pieces l.rest l.others.items (definition_in l.latest))

abbrev pub decreases-loop-rest : goal.decreases-loop-rest
decreases-loop-rest l = length l.rest
