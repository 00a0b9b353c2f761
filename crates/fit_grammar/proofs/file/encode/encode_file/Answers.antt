use Rattle.std.proofs.Common.{length, ap, arith}
use Rattle.fit_grammar.proofs.Encoder.Output.{writes_same, writes_off, text_ok}
use Rattle.fit_grammar.proofs.Encoder.Encoded.{encoded_items-length, framed_items}
use Rattle.fit_grammar.proofs.file.encode.encode_file.Goals as goal

pub encode_records-requires : goal.encode_records-requires
encode_records-requires g c =
    omega (arith, ap length c.records.ensures, encoded_items-length c.args.file.now.items, c.frame.ensures.possible.bound)

pub returns-in-Ok : goal.returns-in-Ok
returns-in-Ok g c =
    writes_same (text_ok c.in-Ok.ensures.written)
    (framed_items c.args.file.now c.frame.result c.records.result.now c.frame.ensures.frame c.records.ensures)

pub returns-in-Err : goal.returns-in-Err
returns-in-Err g c =
    writes_same (writes_off c.in-Err.ensures.written)
    (framed_items c.args.file.now c.frame.result c.records.result.now c.frame.ensures.frame c.records.ensures)
