use Rattle.fit_text.proofs.PenLemmas.{puts_same}
use Rattle.fit_table.proofs.float.put_finite.Goals as goal

pub returns : goal.returns
returns g c =
    let text = c.format_finite.ensures in (
      c.format_finite.result.now,
      record { reads = text.parses; plain = text.plain; layout = text.layout; short = text.short },
      puts_same c.put.ensures c.as_bytes.ensures.value,
    )
