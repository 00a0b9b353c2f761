use Rattle.std.proofs.Common.{◌≡◌, ◌+◌, ◌≤◌, ◌++◌, length, take, drop}
use Rattle.std.specs.Prelude.{sum_by}
use Rattle.fit_shifting.specs.Private.Content.{content_moved}
use Rattle.fit_shifting.proofs.content.move_fields.Given as goal

abbrev pub invariant-loop-fields : goal.invariant-loop-fields
invariant-loop-fields l = record {
  within : l.at + sum_by (λ field. field.size) l.fields ≤ length l.content;
  so_far : take l.at l.content
      ++ content_moved l.shift l.definition.global l.definition.arch l.fields (drop l.at l.content)
      ≡ content_moved l.shift l.definition.global l.definition.arch l.definition.fields.items l.initial.content;
}

abbrev pub decreases-loop-fields : goal.decreases-loop-fields
decreases-loop-fields l = length l.fields
