use Rattle.std.proofs.Common.{◌≡◌, ℕ, List, [], ◌++◌, sym, ap, subst, ◌∙◌, append_assoc, append-nil}
use Rattle.fit_base.specs.declared.order.Arch.TheVariants.{Little}
use Rattle.fit_base.specs.Checksum.{crc}
use Rattle.fit_grammar.specs.declared.file.frame.Frame.{Frame}
use Rattle.fit_grammar.specs.Format.Encoding.{two_bytes, with_checksum, encoded_header, encoded_items, encoded}
use Rattle.fit_grammar.specs.Format.File.{FileValue, IsFrame}
use Rattle.fit_grammar.specs.Format.Records.{data_size}
use Rattle.fit_grammar.proofs.Encoder.Output.{then_writes, stops_before, writes_same, text_ok}
use Rattle.fit_grammar.proofs.Encoder.Checked.{then_checked}
use Rattle.fit_grammar.proofs.Encoder.Encoded.{checksum_bytes}
use Rattle.fit_joining.specs.JoinedItems.{joined_file}
use Rattle.fit_joining.proofs.JoinedRow.{joined_is_file, joined_states, joined_is_plain}
use Rattle.fit_joining.proofs.join.write_joined.Goals as goal

-- the parts that are written one after another
whole : (v : FileValue) (frame : Frame) (size : ℕ) → frame ≡ v.frame → size ≡ data_size v.items
    → with_checksum (encoded_header frame size ++ encoded_items v.items) ≡ encoded v
whole v frame size frame_is size_is =
    ap (λ (f : Frame). with_checksum (encoded_header f size ++ encoded_items v.items)) frame_is
    ∙ ap (λ (n : ℕ). with_checksum (encoded_header v.frame n ++ encoded_items v.items)) size_is

pub returns-in_err-put_header-clause-text : goal.returns-in_err-put_header-clause-text
returns-in_err-put_header-clause-text g c =
    let v = joined_file c.args.first.now c.args.others.now in
    let records = encoded_items v.items in
    let header = encoded_header c.frame.result c.args.size in
    let closing = two_bytes Little (crc (header ++ records)) in
    writes_same (stops_before c.from_residual.ensures.0 c.in_err-put_header.ensures.writes (records ++ closing))
    (sym (append_assoc header records closing) ∙ whole v c.frame.result c.args.size c.frame.ensures.frame c.requires.size)

pub returns-in_err-put_joined-clause-text : goal.returns-in_err-put_joined-clause-text
returns-in_err-put_joined-clause-text g c =
    let v = joined_file c.args.first.now c.args.others.now in
    let records = encoded_items v.items in
    let header = encoded_header c.frame.result c.args.size in
    let closing = two_bytes Little (crc (header ++ records)) in
    writes_same (then_writes c.in_ok-put_header.ensures.writes
    (stops_before c.from_residual-in_err-put_joined.ensures.0 c.in_err-put_joined.ensures.text.writes closing))
    (sym (append_assoc header records closing) ∙ whole v c.frame.result c.args.size c.frame.ensures.frame c.requires.size)

pub returns-in_err-put-clause-text : goal.returns-in_err-put-clause-text
returns-in_err-put-clause-text g c =
    let v = joined_file c.args.first.now c.args.others.now in
    let records = encoded_items v.items in
    let header = encoded_header c.frame.result c.args.size in
    let all = then_checked c.in_ok-put_header.ensures c.in_ok-put_joined.ensures.text in
    let closing = checksum_bytes (header ++ records) c.to_le_bytes.result c.value.result _ _ c.to_le_bytes.ensures c.value.type_inv
    c.value.ensures all.checksum c.new-checksum.ensures in
    writes_same (then_writes all.writes (stops_before c.from_residual-in_err-put.ensures.0 c.in_err-put.ensures []))
    (ap (λ (l : List ℕ). (header ++ records) ++ l) (append-nil c.to_le_bytes.result ∙ closing)
    ∙ whole v c.frame.result c.args.size c.frame.ensures.frame c.requires.size)

pub returns-clause-text : goal.returns-clause-text
returns-clause-text g c =
    let v = joined_file c.args.first.now c.args.others.now in
    let records = encoded_items v.items in
    let header = encoded_header c.frame.result c.args.size in
    let all = then_checked c.in_ok-put_header.ensures c.in_ok-put_joined.ensures.text in
    let closing = checksum_bytes (header ++ records) c.to_le_bytes.result c.value.result _ _ c.to_le_bytes.ensures c.value.type_inv
    c.value.ensures all.checksum c.new-checksum.ensures in
    writes_same (text_ok (then_writes all.writes c.in_ok-put.ensures))
    (ap (λ (l : List ℕ). (header ++ records) ++ l) closing
    ∙ whole v c.frame.result c.args.size c.frame.ensures.frame c.requires.size)

pub returns-clause-file : goal.returns-clause-file
returns-clause-file g c =
    joined_is_file c.args.first.now c.args.others.now (subst IsFrame c.frame.ensures.frame c.frame.ensures.valid)
    c.in_ok-put_joined.ensures.possible (c.requires.first, c.requires.others)

pub returns-clause-messages : goal.returns-clause-messages
returns-clause-messages g c =
    joined_states c.args.first.now c.args.others.now c.in_ok-put_joined.ensures.possible (c.requires.first, c.requires.others)

pub returns-clause-written_out : goal.returns-clause-written_out
returns-clause-written_out g c =
    joined_is_plain c.args.first.now c.args.others.now c.in_ok-put_joined.ensures.possible (c.requires.first, c.requires.others)
