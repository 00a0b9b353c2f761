use Rattle.std.proofs.Common.{◌≡◌, ◌+◌, ◌++◌, length, ap, inl, inr, arith}
use Rattle.std.proofs.lemmas.Bool.{cases_lt}
use Rattle.std.proofs.lemmas.List.{length-append}
use Rattle.fit_grammar.specs.Format.Records.{data_size}
use Rattle.fit_grammar.proofs.Pieces.Noted.{all_noted}
use Rattle.fit_grammar.proofs.Pieces.Standing.{stands_length}
use Rattle.fit_grammar.proofs.Pieces.Reported.{cut_fault}
use Rattle.fit_grammar.proofs.file.reading.finished.Goals as goal

pub returns-then-len-lt2-clause-refused : goal.returns-then-len-lt2-clause-refused
returns-then-len-lt2-clause-refused c = λ fed reads.
    let r = c.args.reading in
    let place = r.at + c.len-then-len-lt2.result + c.len-then-len-lt2-2.result in
    let there : place ≡ length fed = omega (
      arith,
      stands_length fed (r.carry.items ++ r.closing.items) r reads.stands,
      length-append r.carry.items r.closing.items,
      r.carry.ok.0,
      c.len-then-len-lt2.ensures,
      c.len-then-len-lt2-2.ensures.value,
    ) in
    rw c.fault.ensures (cut_fault fed place there (reads.cut (omega (arith, c.len.ensures.value))))

pub returns-clause-places : goal.returns-clause-places
returns-clause-places c = λ fed reads.
    let r = c.args.reading in
    elim (cases_lt r.at r.end) [
      | inl lt ↦ absurd (omega (arith, ap length (reads.within lt).0, c.len.ensures.value, c.if-len-lt2.false))
      | inr le ↦ all_noted fed r.file r.places r.at r.end (r.file.frame.header_size + data_size r.file.items) reads.stands.reached le
          reads.stands.noted
    ]
