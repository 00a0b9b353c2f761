use Rattle.std.proofs.Common.{sym, ◌∙◌}
use Rattle.std.specs.Str.{bytes_eq}
use Rattle.fit_activity.specs.Rides.Fields.{SampleField, row_in}
use Rattle.fit_scripts.proofs.Scripts.Settings.{position_map}
use Rattle.fit_scripts.proofs.script.sample.row_of.Goals as goal

pub returns-clause-place : goal.returns-clause-place
returns-clause-place c = c.place_of.ensures.place ∙ sym (position_map (λ (row : SampleField). bytes_eq c.args.key.now row.2) row_in c.args.rows.now)
