use Rattle.std.proofs.Common.{◌≡◌, ◌*◌, ◌∙◌, pos, ◌+ℤ◌, FitsSigned, w64, ap, arith}
use Rattle.std.proofs.lemmas.Int.{to_z-of_z}
use Rattle.jiff.proofs.SpanFacts.{signed_arith}
use Rattle.fit_text.proofs.PenLemmas.{puts_same}
use Rattle.fit_text.specs.Date.{unix_second}
use Rattle.fit_text.proofs.DateLemmas.{printed}
use Rattle.fit_text.proofs.value.date.put_date.Goals as goal

pub returns : goal.returns
returns g c =
    let shown = c.timestamp_text-text.ensures in
    let fits : FitsSigned w64 (pos c.args.time) = omega (arith, signed_arith) in
    let sum_fits : FitsSigned w64 (pos c.args.time +ℤ pos 631065600) = omega (arith, signed_arith) in
    let given = rw c.from.ensures at c.in-Ok.ensures.value in
    let nanos : c.in-Ok.instant.nanosecond ≡ pos (unix_second c.args.time * 1_000_000_000) = simp to_z-of_z at given in
    puts_same c.put.ensures
    (c.as_bytes.ensures.value ∙ c.as_str.ensures.value
    ∙ printed _ shown.0 _ c.args.time c.new.ensures (shown.1 ∙ ap (λ instant. instant.nanosecond) c.to_plain.ensures ∙ nanos) (omega arith) shown.2)
