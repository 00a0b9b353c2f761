use Rattle.std.proofs.Common.{not, ap, sym, ◌∙◌}
use Rattle.fit_columns.specs.Places.{kind_cell}
use Rattle.fit_columns.proofs.FieldLemmas.{nothing_read, some_read}
use Rattle.fit_columns.proofs.place.is_whole.Goals as goal
use Rattle.fit_columns.proofs.place.is_whole.Goals.{in-Nothing, in_default}

pub returns : goal.returns
returns c =
    elim c.match-matches.branch [
      | in-Nothing w ↦
          ap not w.matches-is
          ∙ sym (nothing_read c.args.base (λ n. c.kind_of_one.ensures.reads n ∙ ap (λ kind. kind_cell kind n) w.in-Nothing.is))
      | in_default w ↦
          ap not w.matches-is ∙ sym (some_read c.args.base c.kind_of_one.result c.kind_of_one.ensures.reads w.in_default.not-Nothing)
    ]
