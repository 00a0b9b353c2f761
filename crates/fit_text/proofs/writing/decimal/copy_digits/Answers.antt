use Rattle.std.proofs.Common.{◌≡◌, ℕ, ◌+◌, ◌-◌, List, ◌++◌, take, drop, take-take, length, ap, ◌∙◌, arith}
use Rattle.fit_text.specs.declared.writing.decimal.digits.TheConstants.{DIGITS}
use Rattle.fit_text.proofs.DecimalLemmas.{four_from}
use Rattle.fit_text.proofs.PenLemmas.{part_placed}
use Rattle.fit_text.proofs.writing.decimal.copy_digits.Goals as goal

pub returns : goal.returns
returns c n few =
    let from = c.args.from in
    let placed : List ℕ = c.copy_from_slice.new.self in
    let is : placed ≡ take 4 (drop from DIGITS) = c.copy_from_slice.ensures.after ∙ four_from from c.requires.digits in
    let four = ap length c.copy_from_slice.ensures.after in
    part_placed c.args.bytes.now placed c.args.at (c.args.at + 4 - c.args.at) n (omega (arith, four)) (omega (arith, four))
    ∙ ap (λ t. take c.args.at c.args.bytes.now ++ t) (ap (take n) is ∙ take-take n 4 (drop from DIGITS) few)
