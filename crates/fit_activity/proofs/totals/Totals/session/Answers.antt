use Rattle.std.proofs.Common.{ap, ◌∙◌, ◌+◌}
use Rattle.fit_activity.specs.Private.Step.{session_by}
use Rattle.fit_activity.proofs.RunningTotals.Summed.{session_from, session-kept}
use Rattle.fit_activity.proofs.totals.Totals.session.Goals as goal

pub returns : goal.returns
returns c = λ list are.
    ap (session_from c.self.inside.start.sport (c.self.inside.laps + 1)) c.stretch.ensures ∙ ap session_by c.self.view_is ∙ session-kept _ list are
