use Rattle.std.proofs.Common.{[], sym, append-nil}
use Rattle.fit_grammar.proofs.Encoder.Output.{writes_same}
use Rattle.fit_text.proofs.PenLemmas.{puts_through}
use Rattle.fit_text.proofs.writing.Pen.hand_over.Goals as goal

pub returns-clause-puts : goal.returns-clause-puts
returns-clause-puts g c =
    rw (← c.self.view_is) (puts_through _ _ _ _ [] _ (writes_same c.put.ensures (sym (append-nil _))))
