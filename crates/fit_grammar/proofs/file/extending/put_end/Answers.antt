use Rattle.std.proofs.Common.{ℕ, ◌++◌, List, refl, ap, sym, ◌∙◌}
use Rattle.fit_base.specs.declared.order.Arch.TheVariants.{Little}
use Rattle.fit_base.specs.Checksum.{crc, crc_from}
use Rattle.fit_base.proofs.Register.{crc_from-append}
use Rattle.fit_grammar.specs.Format.Encoding.{two_bytes}
use Rattle.fit_grammar.proofs.Encoder.Output.{then_writes, stops_before, writes_same}
use Rattle.fit_grammar.proofs.Encoder.Encoded.{checksum_bytes}
use Rattle.fit_grammar.proofs.file.extending.put_end.Goals as goal

pub returns-in_err-put_checked : goal.returns-in_err-put_checked
returns-in_err-put_checked g c = λ bytes is.
    stops_before c.from_residual.ensures.0 c.in_err-put_checked.ensures.writes (two_bytes Little (crc (bytes ++ c.args.after.now)))

pub returns : goal.returns
returns g c = λ bytes is.
    let after = c.args.after.now in
    let over = c.in_ok-put_checked.ensures.checksum ∙ ap (λ (n : ℕ). crc_from n after) is ∙ sym (crc_from-append 0 bytes after) in
    let last = checksum_bytes (bytes ++ after) c.to_le_bytes.result c.value.result _ 0 c.to_le_bytes.ensures c.value.type_inv
    c.value.ensures over refl in
    writes_same (then_writes c.in_ok-put_checked.ensures.writes c.put.ensures) (ap (λ (l : List ℕ). after ++ l) last)
