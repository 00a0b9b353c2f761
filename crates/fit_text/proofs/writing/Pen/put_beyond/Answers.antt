use Rattle.std.proofs.Common.{ap, ◌∙◌}
use Rattle.fit_text.proofs.PenLemmas.{puts_then, puts_past}
use Rattle.fit_text.proofs.writing.Pen.put_beyond.Goals as goal

pub returns-then-text-gt-SIZE : goal.returns-then-text-gt-SIZE
returns-then-text-gt-SIZE g c =
    puts_then c.in_ok-hand_over.ensures.puts
    (rw (← c.self.view_is) (puts_past _ _ _ _ _ _ (ap (λ w. w.waiting) c.self.view_is ∙ c.in_ok-hand_over.ensures.none) c.put.ensures))
