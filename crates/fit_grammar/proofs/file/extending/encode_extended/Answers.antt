use Rattle.std.proofs.Common.{ℕ, ◌+◌, ◌++◌, length, ap, ◌∙◌}
use Rattle.fit_base.specs.declared.order.Arch.TheVariants.{Little}
use Rattle.fit_base.specs.Checksum.{crc, crc_from}
use Rattle.fit_grammar.specs.Format.Encoding.{two_bytes, encoded_header, encoded_items}
use Rattle.fit_grammar.proofs.Encoder.Output.{then_writes, stops_before, writes_same}
use Rattle.fit_grammar.proofs.Encoder.Checked.{then_checked}
use Rattle.fit_grammar.proofs.Encoder.Extended.{extended_whole}
use Rattle.fit_grammar.proofs.file.extending.encode_extended.Goals as goal

pub returns-in_err-put_beginning : goal.returns-in_err-put_beginning
returns-in_err-put_beginning g c = λ first last before_is after_is.
    let v = c.args.file.now in
    let before = c.args.before.now in
    let after = c.args.after.now in
    let own = encoded_items v.items in
    let size = length before + c.data_size.result + length after in
    let beginning = encoded_header c.frame.result size ++ before in
    let closing = two_bytes Little (crc ((beginning ++ own) ++ after)) in
    let whole = extended_whole v c.frame.result size before after first last c.frame.ensures.frame
    (ap (λ (n : ℕ). length before + n + length after) c.data_size.ensures) before_is after_is in
    writes_same (stops_before c.from_residual.ensures.0 c.in_err-put_beginning.ensures.writes (own ++ (after ++ closing))) whole

pub returns-in_err-put_own_items : goal.returns-in_err-put_own_items
returns-in_err-put_own_items g c = λ first last before_is after_is.
    let v = c.args.file.now in
    let before = c.args.before.now in
    let after = c.args.after.now in
    let own = encoded_items v.items in
    let size = length before + c.data_size.result + length after in
    let beginning = encoded_header c.frame.result size ++ before in
    let closing = two_bytes Little (crc ((beginning ++ own) ++ after)) in
    let whole = extended_whole v c.frame.result size before after first last c.frame.ensures.frame
    (ap (λ (n : ℕ). length before + n + length after) c.data_size.ensures) before_is after_is in
    writes_same (then_writes c.in_ok-put_beginning.ensures.writes
    (stops_before c.from_residual-in_err-put_own_items.ensures.0 c.in_err-put_own_items.ensures.writes (after ++ closing))) whole

pub returns : goal.returns
returns g c = λ first last before_is after_is.
    let v = c.args.file.now in
    let before = c.args.before.now in
    let after = c.args.after.now in
    let own = encoded_items v.items in
    let size = length before + c.data_size.result + length after in
    let beginning = encoded_header c.frame.result size ++ before in
    let closing = two_bytes Little (crc ((beginning ++ own) ++ after)) in
    let whole = extended_whole v c.frame.result size before after first last c.frame.ensures.frame
    (ap (λ (n : ℕ). length before + n + length after) c.data_size.ensures) before_is after_is in
    let all = then_checked c.in_ok-put_beginning.ensures c.in_ok-put_own_items.ensures in
    let read = all.checksum ∙ ap (λ (n : ℕ). crc_from n (beginning ++ own)) c.new-checksum.ensures in
    writes_same (then_writes c.in_ok-put_beginning.ensures.writes
    (then_writes c.in_ok-put_own_items.ensures.writes (c.put_end.ensures (beginning ++ own) read))) whole
