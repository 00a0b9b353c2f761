use Rattle.std.proofs.Common.{◌/◌, sym, arith}
use Rattle.std.proofs.lemmas.Fmt.{length-decimal-le}
use Rattle.fit_text.proofs.DecimalLemmas.{decimal_six}
use Rattle.fit_text.proofs.PenLemmas.{places_same, places_then}
use Rattle.fit_text.proofs.writing.decimal.place_twelve.Goals as goal

pub place_six-requires-clause-room : goal.place_six-requires-clause-room
place_six-requires-clause-room c =
    omega (
      arith,
      c.place_short-at.ensures.moved,
      length-decimal-le 6 (c.args.number / 1000000) (omega arith) (omega arith) (omega arith),
    )

pub returns : goal.returns
returns c =
    places_same (places_then c.place_short-at.ensures c.place_six.ensures)
    (sym (decimal_six c.args.number c.if-number-lt1000000.false (omega arith)))
