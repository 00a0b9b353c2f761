use Rattle.std.proofs.Common.{◌++◌, ◌∷◌, [], arith}
use Rattle.std.proofs.lemmas.Result.{on_ok_weaker}
use Rattle.fit_mending.specs.Private.Cut.{piece_from}
use Rattle.fit_mending.proofs.Cut.{adds_none, adds_piece}
use Rattle.fit_mending.proofs.skipping.put_piece.Goals as goal

pub returns-then-start-end-clause-cut : goal.returns-then-start-end-clause-cut
returns-then-start-end-clause-cut g c = λ bytes taken within has.
    (taken, has, adds_none bytes taken c.args.start c.args.end c.args.kept (search (arith, c.if-start-end.true)))

pub returns-clause-cut : goal.returns-clause-cut
returns-clause-cut g c = λ bytes taken within has.
    on_ok_weaker c.put.result
    (λ more. (
      taken ++ piece_from c.args.start c.args.end c.args.kept ∷ [],
      more,
      adds_piece bytes taken c.args.start c.args.end c.args.kept (omega (arith, c.requires, c.if-start-end.false)) within,
    ))
    (c.put.ensures.taken taken has)
