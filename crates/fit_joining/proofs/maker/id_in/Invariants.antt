use Rattle.std.proofs.Common.{◌≡◌, ◌≤◌, length}
use Rattle.std.specs.Prelude.{sum_by}
use Rattle.fit_grammar.specs.Format.Message.{fields_of}
use Rattle.fit_joining.specs.Makers.{id_in}
use Rattle.fit_joining.proofs.maker.id_in.Given as goal

abbrev pub invariant-loop-fields : goal.invariant-loop-fields
invariant-loop-fields l = record {
  within : sum_by (λ field. field.size) l.fields ≤ length l.rest;
  found : id_in l.number (fields_of l.definition.arch l.fields l.rest)
      ≡ id_in l.number (fields_of l.definition.arch l.definition.fields.items l.content);
}

abbrev pub decreases-loop-fields : goal.decreases-loop-fields
decreases-loop-fields l = length l.fields
