use Rattle.std.proofs.Common.{◌∷◌, [], None, ap, sym, ◌∙◌, subst}
use Rattle.fit_activity.specs.Rides.Recording.{Started}
use Rattle.fit_activity.specs.Rides.RunningTotals.{AreTotals}
use Rattle.fit_activity.specs.Private.Step.{totals_from, clock_at, sums_at}
use Rattle.fit_activity.proofs.RunningTotals.Added.{AreTotals-start}
use Rattle.fit_activity.proofs.totals.Totals.start.Goals as goal

pub returns : goal.returns
returns c =
    let s = c.args.start.now in
    let list = Started s ∷ [] in
    let same = c.start_in_range-start.ensures.same in
    let clock = c.at.ensures ∙ ap (λ v. clock_at v.time) same in
    subst (λ v. AreTotals (totals_from v c.at.result c.at-2.result c.at-3.result) list) (sym same)
    (subst (λ v. AreTotals (totals_from s v c.at-2.result c.at-3.result) list) (sym clock)
    (subst (λ v. AreTotals (totals_from s (clock_at s.time) v c.at-3.result) list) (sym c.at-2.ensures)
    (subst (λ v. AreTotals (totals_from s (clock_at s.time) (sums_at None) v) list) (sym c.at-3.ensures)
    (AreTotals-start s c.start_in_range-start.ensures.fits c.requires))))
