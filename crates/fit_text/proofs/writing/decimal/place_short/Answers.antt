use Rattle.std.proofs.Common.{◌/◌, sym, arith}
use Rattle.std.proofs.lemmas.Fmt.{length-decimal-le}
use Rattle.fit_text.proofs.DecimalLemmas.{decimal_three}
use Rattle.fit_text.proofs.PenLemmas.{places_same, places_then}
use Rattle.fit_text.proofs.writing.decimal.place_short.Goals as goal

pub place_three-requires-clause-room : goal.place_three-requires-clause-room
place_three-requires-clause-room c =
    omega (
      arith,
      c.place_first-at.ensures.moved,
      length-decimal-le 3 (c.args.number / 1000) (omega arith) (omega arith) (omega arith),
    )

pub returns : goal.returns
returns c =
    places_same (places_then c.place_first-at.ensures c.place_three.ensures)
    (sym (decimal_three c.args.number c.if-number-lt1000.false (omega arith)))
