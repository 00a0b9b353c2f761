use Rattle.std.proofs.Common.{drop}
use Rattle.fit_text.proofs.PenLemmas.{Leaves}
use Rattle.fit_runs.specs.Printed.ReplyLines.{lines_text}
use Rattle.fit_runs.proofs.simulating.put_replies.Given as goal

abbrev pub invariant-loop-index : goal.invariant-loop-index
invariant-loop-index g l =
    Leaves l.initial.pen l.pen (lines_text l.events l.replies) (lines_text (drop l.index l.events) (drop l.index l.replies))
