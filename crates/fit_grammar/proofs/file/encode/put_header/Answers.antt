use Rattle.std.proofs.Common.{refl}
use Rattle.fit_grammar.proofs.Encoder.Checked.{then_checked, stops_checked, checked_same}
use Rattle.fit_grammar.proofs.Encoder.Encoded.{header_joined, checksum_bytes}
use Rattle.fit_grammar.proofs.file.encode.put_header.Goals as goal

pub returns-in_err-put_checked : goal.returns-in_err-put_checked
returns-in_err-put_checked g c =
    checked_same (stops_checked c.from_residual.ensures.0 c.in_err-put_checked.ensures _ _)
    (header_joined c.args.frame c.args.size _ _ c.if-frame-ne14.false c.header_front-front.ensures refl)

pub returns : goal.returns
returns g c =
    checked_same (then_checked c.in_ok-put_checked.ensures c.put_checked-3.ensures)
    (header_joined c.args.frame c.args.size _ _ c.if-frame-ne14.false c.header_front-front.ensures
    (checksum_bytes _ _ c.of.result _ 0 c.to_le_bytes.ensures c.of.type_inv refl c.of.ensures refl))
