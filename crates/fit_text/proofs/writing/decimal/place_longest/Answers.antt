use Rattle.std.proofs.Common.{◌/◌, sym, arith}
use Rattle.std.proofs.lemmas.Fmt.{length-decimal-le}
use Rattle.fit_text.proofs.DecimalLemmas.{decimal_twelve}
use Rattle.fit_text.proofs.PenLemmas.{places_same, places_then}
use Rattle.fit_text.proofs.writing.decimal.place_longest.Goals as goal

pub place_six-at-requires-clause-room : goal.place_six-at-requires-clause-room
place_six-at-requires-clause-room c =
    omega (
      arith,
      c.place_twelve-at.ensures.moved,
      length-decimal-le 8 (c.args.number / 1000000000000) (omega arith) (omega arith) (omega arith),
    )

pub place_six-requires-clause-room : goal.place_six-requires-clause-room
place_six-requires-clause-room c =
    omega (
      arith,
      c.place_twelve-at.ensures.moved,
      c.place_six-at.ensures.moved,
      length-decimal-le 8 (c.args.number / 1000000000000) (omega arith) (omega arith) (omega arith),
    )

pub returns : goal.returns
returns c =
    places_same (places_then (places_then c.place_twelve-at.ensures c.place_six-at.ensures) c.place_six.ensures)
    (sym (decimal_twelve c.args.number c.if-number-lt1000000000000.false (omega arith)))
