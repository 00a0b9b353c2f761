use Rattle.std.proofs.Common.{sym}
use Rattle.fit_text.proofs.PlanLemmas.{no_type, other_shows}
use Rattle.fit_text.proofs.form.plan.kind_of.Goals as goal

pub kind_of_type-requires : goal.kind_of_type-requires
kind_of_type-requires c = sym c.in-Some.ensures.table

pub returns-in-None : goal.returns-in-None
returns-in-None c =
    other_shows c.args.dates.now c.args.field.now.number c.args.field.now.base c.args.field.now.size
    (λ same four. no_type c.args.field.now.base (sym c.in-None.ensures.table) same)
