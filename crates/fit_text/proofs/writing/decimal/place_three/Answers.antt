use Rattle.std.proofs.Common.{◌++◌, take, refl, ap, ◌∙◌, arith}
use Rattle.fit_text.proofs.DecimalLemmas.{three_from}
use Rattle.fit_text.proofs.writing.decimal.place_three.Goals as goal

pub returns : goal.returns
returns c = record {
  bytes = c.copy_digits.ensures 3 (omega arith)
      ∙ ap (λ t. take c.args.at c.args.bytes.now ++ t) (three_from c.args.number _ c.requires.short refl);
  moved = refl;
}
