use Rattle.std.proofs.Common.{◌≡◌, ap, ◌∙◌, rules}
use Rattle.fit_text.proofs.PenLemmas.{puts_written, writes_held}
use Rattle.fit_text.proofs.form.file.put_file.Goals as goal

pub returns : goal.returns
returns g c =
    let name : c.into_writer.result.ghost_name ≡ c.new-pen.result.name = c.into_writer.ensures.name ∙ c.put_all-done.ensures.text.same in
    let start = ap (λ w. w.held) c.new-pen.ensures in
    let all = puts_written _ _ _ _ (ap (λ w. w.waiting) c.new-pen.ensures) c.put_all-done.ensures.none c.put_all-done.ensures.text in
    writes_held (rw (start, ← c.into_writer.ensures.held) at all) (ap g.S.Sink.held (search rules))
