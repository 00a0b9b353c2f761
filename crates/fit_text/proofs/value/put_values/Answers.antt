use Rattle.std.proofs.Common.{ap, ◌∙◌, sym}
use Rattle.fit_text.specs.Values.{bytes_as}
use Rattle.fit_text.specs.Notation.{words_of}
use Rattle.fit_text.proofs.PenLemmas.{puts_same}
use Rattle.fit_text.proofs.ValueLemmas.{raw_values, no_values}
use Rattle.fit_text.proofs.value.put_values.Goals as goal

pub returns-then-is_raw : goal.returns-then-is_raw
returns-then-is_raw g c =
    puts_same c.put_bytes.ensures
    (ap (bytes_as (words_of c.args.notation.now)) c.raw.ensures
    ∙ raw_values (words_of c.args.notation.now) (g.N.Numbers.number c.args.numbers.now) c.args.value.now (sym c.if-is_raw.ensures))

pub returns-then-count-eq0 : goal.returns-then-count-eq0
returns-then-count-eq0 g c =
    puts_same c.put.ensures
    (no_values (words_of c.args.notation.now) (g.N.Numbers.number c.args.numbers.now) c.args.value.now (sym c.if-is_raw.ensures)
    (sym c.count.ensures ∙ c.if-count-eq0.true))

pub put_some-requires-clause-known : goal.put_some-requires-clause-known
put_some-requires-clause-known g c = sym c.in-Some.ensures
