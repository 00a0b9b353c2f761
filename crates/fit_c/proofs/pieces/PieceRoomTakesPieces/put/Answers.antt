use Rattle.std.proofs.Common.{◌+◌, ap, ◌∙◌}
use Rattle.std.proofs.Math.ListN.{set}
use Rattle.std.specs.Io.Iter.{u64_saturate}
use Rattle.fit_c.proofs.Kept.{holds_more}
use Rattle.fit_c.proofs.pieces.PieceRoomTakesPieces.put.Goals as goal

pub returns-clause-taken : goal.returns-clause-taken
returns-clause-taken c = λ pieces has.
    holds_more c.args.self.now _ pieces c.args.piece has c.hold.ensures.small
    (λ room. c.hold.ensures.held room ∙ ap (set c.args.self.now.pieces.now c.args.self.now.count) c.of.ensures) c.hold.auto.pieces
    c.saturating_add-self.ensures
    (c.saturating_add-self-2.ensures ∙ ap (λ n. u64_saturate (c.args.self.now.kept + n)) c.kept_bytes.ensures)
