use Rattle.std.proofs.Common.{◌+◌, ◌*◌, ◌-◌, ◌++◌, take, refl, ap, ◌∙◌, arith}
use Rattle.fit_text.proofs.DecimalLemmas.{first_from, first_length}
use Rattle.fit_text.proofs.writing.decimal.place_first.Goals as goal

pub returns : goal.returns
returns c =
    let digits = 1 + c.from.result + c.from-2.result in
    let from = 3 * c.args.number + 3 - digits in
    let first = first_from c.args.number _ _ digits from refl refl c.requires.short (rw (c.from.ensures, c.from-2.ensures) refl) refl in
    record {
      bytes = c.copy_digits.ensures digits (omega (arith, first.0)) ∙ ap (λ t. take c.args.at c.args.bytes.now ++ t) first.1;
      moved = ap (λ d. c.args.at + d) (first_length c.args.number digits from first.0 (omega arith) first.1);
    }
