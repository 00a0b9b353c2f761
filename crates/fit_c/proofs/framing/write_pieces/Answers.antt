use Rattle.std.specs.Prelude.{map}
use Rattle.fit_mending.specs.Pieces.{kept_row}
use Rattle.fit_c.specs.Skipped.{piece_of}
use Rattle.fit_c.proofs.Kept.{written_is}
use Rattle.fit_c.proofs.framing.write_pieces.Goals as goal

pub returns : goal.returns
returns c =
    written_is c.args.frame (kept_row c.args.bytes.now (map piece_of c.args.pieces.now)) c.header_front-front.result c.to_le_bytes.result
    c.to_le_bytes-checksum.result c.copy_to.new.room c.copy_to-2.new.room c.copy_kept.new.out c.copy_to-3.new.room c.args.out.now c.args.size
    c.of.result c.of-2.result c.requires.long c.requires.size c.header_front-front.ensures c.to_le_bytes.ensures c.of.type_inv c.of.ensures
    c.to_le_bytes-checksum.ensures c.of-2.type_inv c.of-2.ensures c.copy_to.ensures.content c.copy_to-2.ensures.content c.copy_kept.ensures
    c.copy_to-3.ensures.content
