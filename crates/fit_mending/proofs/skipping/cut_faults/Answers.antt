use Rattle.std.proofs.Common.{arith, []}
use Rattle.fit_mending.proofs.skipping.cut_faults.Goals as goal

pub returns-clause-cut : goal.returns-clause-cut
returns-clause-cut g c =
    let found = c.in_ok-cut_after.ensures.cut in
    (found.0, found.1, found.2 [] (search (arith, c.new.ensures)))
