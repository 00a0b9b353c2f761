use Rattle.std.proofs.Common.{◌≡◌, None, [], ◌∷◌, ◌++◌, ap, sym, ◌∙◌, subst}
use Rattle.fit_activity.specs.Rides.Recording.{Added}
use Rattle.fit_activity.specs.Rides.RunningTotals.{AreTotals}
use Rattle.fit_activity.specs.Private.Step.{refusal_by, totals_after}
use Rattle.fit_activity.proofs.RunningTotals.Added.{AreTotals-push, sums-room, open-few}
use Rattle.fit_activity.proofs.RunningTotals.Judged.{refusal-kept}
use Rattle.fit_activity.proofs.totals.Totals.add.Goals as goal

pub step-requires-clause-whole : goal.step-requires-clause-whole
step-requires-clause-whole c = sums-room _ _ _ c.requires.3 c.requires.1.whole

pub step-requires-clause-lap : goal.step-requires-clause-lap
step-requires-clause-lap c = sums-room _ _ _ (open-few _ c.requires.3) c.requires.1.lap

pub returns : goal.returns
returns c = λ list are.
    let e = c.args.entry.now in
    let none : refusal_by c.args.self.now e ≡ None = refusal-kept _ _ e c.requires.1 ∙ c.requires.2 in
    let step = c.step.ensures.step ∙ ap (totals_after c.args.self.now) c.in_range.ensures.same in
    subst (λ totals. AreTotals totals (list ++ Added e ∷ [])) (sym step)
    (AreTotals-push _ list e c.in_range.ensures.fits c.step.ensures.kept none are)
