use Rattle.std.proofs.Common.{◌∷◌, length}
use Rattle.std.specs.List.{AllByRecursion}
use Rattle.fit_grammar.specs.Format.Encoding.{encoded_items}
use Rattle.fit_grammar.specs.Calls.PlainForm.{IsPlain}
use Rattle.fit_grammar.specs.Calls.Possible.{CanBeFile}
use Rattle.fit_joining.specs.JoinedItems.{items_after, parts_items}
use Rattle.fit_joining.specs.Private.Row.{LeavesChecked}
use Rattle.fit_joining.proofs.join.put_parts.Given as goal

abbrev pub invariant-loop-rest : goal.invariant-loop-rest
invariant-loop-rest g l = record {
  plain : AllByRecursion (λ part. AllByRecursion IsPlain part.file.items) l.rest;
  possible : AllByRecursion (λ part. CanBeFile part.file) l.rest → AllByRecursion (λ part. CanBeFile part.file) (l.fn.first ∷ l.fn.others);
  so_far : LeavesChecked (g.S.Sink.held l.fn.out) (g.S.Sink.held l.out) l.fn.checksum l.checksum
      (encoded_items (parts_items (l.fn.first ∷ l.fn.others))) (encoded_items (items_after l.makers l.now l.rest));
}

abbrev pub decreases-loop-rest : goal.decreases-loop-rest
decreases-loop-rest g l = length l.rest
