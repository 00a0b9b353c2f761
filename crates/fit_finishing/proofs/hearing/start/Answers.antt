use Rattle.std.proofs.Common.{cond, sym, subst}
use Rattle.fit_finishing.specs.Heard.{start_by, followed_by, with_one_left_out}
use Rattle.fit_finishing.specs.Private.Ride.{IsRide, before_start, started_after}
use Rattle.fit_finishing.proofs.hearing.start.Goals as goal

pub returns-in-Some : goal.returns-in-Some
returns-in-Some c =
    let e = c.args.entry.now in
    let h = before_start c.args.left_out in
    let begun = started_after (start_by c.args.sport e) c.args.left_out in
    subst (λ b. IsRide c.follow.new.self (cond b (followed_by e begun) (with_one_left_out h))) (sym c.in-Some.ensures.starts.0)
    (c.follow.ensures begun c.in-Some.ensures.starts.1)
