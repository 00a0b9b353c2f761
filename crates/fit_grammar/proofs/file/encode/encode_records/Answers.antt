use Rattle.std.proofs.Common.{ℕ, List, ◌++◌, length, sym, ap, append_assoc}
use Rattle.fit_base.specs.declared.order.Arch.TheVariants.{Little}
use Rattle.fit_base.specs.Checksum.{crc}
use Rattle.fit_grammar.specs.Format.Encoding.{two_bytes, encoded_header}
use Rattle.fit_grammar.proofs.Encoder.Output.{then_writes, stops_before, writes_same}
use Rattle.fit_grammar.proofs.Encoder.Checked.{then_checked}
use Rattle.fit_grammar.proofs.Encoder.Encoded.{checksum_bytes}
use Rattle.fit_grammar.proofs.file.encode.encode_records.Goals as goal

pub returns-in_err-put_header-clause-written : goal.returns-in_err-put_header-clause-written
returns-in_err-put_header-clause-written g c =
    let records = c.args.records.now in
    let header = encoded_header c.args.frame (length records) in
    let closing = two_bytes Little (crc (header ++ records)) in
    writes_same (stops_before c.from_residual.ensures.0 c.in_err-put_header.ensures.writes (records ++ closing))
    (sym (append_assoc header records closing))

pub returns-in_err-put_checked-clause-written : goal.returns-in_err-put_checked-clause-written
returns-in_err-put_checked-clause-written g c =
    let records = c.args.records.now in
    let header = encoded_header c.args.frame (length records) in
    let closing = two_bytes Little (crc (header ++ records)) in
    writes_same (then_writes c.in_ok-put_header.ensures.writes
    (stops_before c.from_residual-in_err-put_checked.ensures.0 c.in_err-put_checked.ensures.writes closing))
    (sym (append_assoc header records closing))

pub returns-clause-written : goal.returns-clause-written
returns-clause-written g c =
    let records = c.args.records.now in
    let header = encoded_header c.args.frame (length records) in
    let whole = then_checked c.in_ok-put_header.ensures c.in_ok-put_checked.ensures in
    let closing = checksum_bytes (header ++ records) c.to_le_bytes.result c.value.result _ _ c.to_le_bytes.ensures c.value.type_inv
    c.value.ensures whole.checksum c.new-checksum.ensures in
    writes_same (then_writes whole.writes c.put.ensures) (ap (λ (l : List ℕ). (header ++ records) ++ l) closing)
