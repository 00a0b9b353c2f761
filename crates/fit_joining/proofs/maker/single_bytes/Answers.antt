use Rattle.std.proofs.Common.{Bool, [], sym, ap, ◌∙◌, if◌then◌else◌}
use Rattle.fit_joining.proofs.Declared.{bytes_single}
use Rattle.fit_joining.proofs.maker.single_bytes.Goals as goal

pub returns-then-is_single : goal.returns-then-is_single
returns-then-is_single c =
    λ arch. ap (λ (b : Bool). if b then c.args.bytes.now else []) (sym (sym c.is_single.ensures ∙ c.if-is_single.true))
    ∙ bytes_single c.args.base arch c.args.bytes.now
