use Rattle.std.proofs.Common.{◌+◌, ◌≡◌, refl, suc, ap, ◌∙◌, arith, take, set}
use Rattle.std.proofs.Math.Seq.{take-suc-set}
use Rattle.fit_text.proofs.writing.member.place_byte.Goals as goal

pub returns : goal.returns
returns c =
    let next : c.args.at + 1 ≡ suc c.args.at = omega arith in
    record {
      bytes = ap (λ n. take n (set c.args.bytes.now c.args.at c.args.byte)) next ∙ take-suc-set c.args.bytes.now c.args.at c.args.byte c.requires;
      moved = refl;
    }
