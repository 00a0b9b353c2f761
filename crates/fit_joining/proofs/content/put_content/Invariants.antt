use Rattle.std.proofs.Common.{◌≤◌, length}
use Rattle.std.specs.Prelude.{sum_by}
use Rattle.fit_joining.specs.Content.{content_changed}
use Rattle.fit_joining.specs.Private.Row.{LeavesChecked}
use Rattle.fit_joining.proofs.content.put_content.Given as goal

abbrev pub invariant-loop-fields : goal.invariant-loop-fields
invariant-loop-fields g l = record {
  within : sum_by (λ field. field.size) l.fields ≤ length l.rest;
  so_far : LeavesChecked (g.S.Sink.held l.initial.out) (g.S.Sink.held l.out) l.initial.checksum l.checksum
      (content_changed l.given l.tally l.definition.global l.definition.arch l.definition.fields.items l.content)
      (content_changed l.given l.tally l.definition.global l.definition.arch l.fields l.rest);
}

abbrev pub decreases-loop-fields : goal.decreases-loop-fields
decreases-loop-fields g l = length l.fields
