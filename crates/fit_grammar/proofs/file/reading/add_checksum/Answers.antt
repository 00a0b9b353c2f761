use Rattle.std.proofs.Common.{◌≡◌, ℕ, ◌++◌, length, take, refl, ap, ◌∙◌, arith}
use Rattle.fit_base.specs.Checksum.{crc_from}
use Rattle.fit_grammar.proofs.Pieces.Standing.{left_is, stands_longer}
use Rattle.fit_grammar.proofs.file.reading.add_checksum.Goals as goal

pub returns-clause-stands : goal.returns-clause-stands
returns-clause-stands c = λ fed reads.
    let old = c.args.reading.now in
    let new = record old { checksum = c.add.new.self } in
    let bytes = c.args.bytes.now in
    let had : c.len.result ≡ length old.carry.items = omega (arith, c.len.ensures, old.carry.ok.0) in
    let goes_on = c.add.ensures ∙ ap (λ (n : ℕ). crc_from old.checksum (take n bytes)) c.min.ensures in
    stands_longer fed (old.carry.items ++ old.closing.items) bytes old new c.saturating_sub-left.result reads.stands
    (c.saturating_sub-left.ensures ∙ left_is fed old c.len.result reads had) refl refl refl refl goes_on
