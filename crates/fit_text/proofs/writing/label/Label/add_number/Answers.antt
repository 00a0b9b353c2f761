use Rattle.std.proofs.Common.{ap, arith, length, length-take-le}
use Rattle.std.proofs.lemmas.Fmt.{length-decimal-le}
use Rattle.fit_text.proofs.writing.label.Label.add_number.Goals as goal

pub invariant_of-self : goal.invariant_of-self
invariant_of-self c =
    let inside = c.self.inside in
    omega (
      arith,
      c.place_number-self-inside.ensures.moved,
      length-decimal-le 20 c.args.number (omega arith) (omega arith) (omega arith),
      c.requires,
      ap length c.self.view_is,
      length-take-le inside.len inside.bytes (omega (arith, c.self.invariant, c.self.told)),
    )
