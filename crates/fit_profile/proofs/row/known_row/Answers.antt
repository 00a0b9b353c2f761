use Rattle.std.proofs.Common.{ap, ◌∙◌}
use Rattle.fit_profile.specs.Row.{row_or_common}
use Rattle.fit_profile.proofs.ShortLemmas.{known_short}
use Rattle.fit_profile.proofs.row.known_row.Goals as goal

pub returns-clause-short : goal.returns-clause-short
returns-clause-short c =
    known_short c.row_or_common.result c.args.message c.args.number c.known_fields_of.ensures.short
    (c.row_or_common.ensures ∙ ap (λ rows. row_or_common rows c.args.number) c.known_fields_of.ensures.rows)
