use Rattle.std.proofs.Common.{◌≡◌, ◌++◌, List, length}
use Rattle.fit_grammar.specs.declared.definition.FieldDefinition.{FieldDefinition}
use Rattle.fit_text.specs.declared.form.plan.Column.{Column}
use Rattle.fit_text.specs.Plan.{AreColumns}
use Rattle.fit_text.proofs.form.plan.add_columns.Given as goal

abbrev pub invariant-loop-rest : goal.invariant-loop-rest
invariant-loop-rest l =
    (done : List FieldDefinition) × (own : List Column) × (l.initial.rest ≡ done ++ l.rest)
    × (l.columns.items ≡ l.initial.columns.items ++ own) × AreColumns l.utc l.global done own

abbrev pub decreases-loop-rest : goal.decreases-loop-rest
decreases-loop-rest l = length l.rest
