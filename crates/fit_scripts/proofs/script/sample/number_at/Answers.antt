use Rattle.std.proofs.Common.{sym, ap, ◌∙◌}
use Rattle.std.proofs.lemmas.List.{get_or-map}
use Rattle.fit_activity.specs.Rides.Fields.{SampleField, row_in}
use Rattle.fit_scripts.specs.Scripts.Words.{number_as}
use Rattle.fit_scripts.proofs.script.sample.number_at.Goals as goal

pub returns : goal.returns
returns c = λ none.
    c.number_as.ensures
    ∙ ap (λ (row : SampleField). number_as row.1 c.args.value.now) (sym (get_or-map row_in c.args.rows.now c.args.at _ none c.requires))
