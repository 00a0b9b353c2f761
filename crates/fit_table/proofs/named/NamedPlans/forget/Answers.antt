use Rattle.std.proofs.Common.{sym, ◌∙◌}
use Rattle.fit_table.proofs.NamedLemmas.{named_forget}
use Rattle.fit_table.proofs.named.NamedPlans.forget.Goals as goal

pub returns : goal.returns
returns c = λ known names place definition_for d own h.
    named_forget known names place definition_for d c.args.self.now c.from.result (c.from.ensures ∙ sym own) h
