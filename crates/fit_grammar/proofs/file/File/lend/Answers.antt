use Rattle.std.proofs.Common.{[], List, ℕ, sym, ap, subst, ◌∙◌}
use Rattle.fit_grammar.specs.Format.Records.{in_force, data_size}
use Rattle.fit_grammar.specs.Format.File.{FileValue}
use Rattle.fit_grammar.specs.Calls.Possible.{CanBeFile}
use Rattle.fit_grammar.specs.Private.ItemRow.{items_in, AreRead}
use Rattle.fit_grammar.specs.Private.Passing.{framed_items}
use Rattle.fit_grammar.proofs.KeptRow.ReadAgain.{written_read}
use Rattle.fit_grammar.proofs.file.File.lend.Goals as goal

pub invariant_of-result : goal.invariant_of-result
invariant_of-result c =
    let kept = c.self.inside.records.items in
    let same = sym c.deref.ensures.value in
    let i = c.self.invariant in
    record {
      can_be = subst (λ (bytes : List ℕ). CanBeFile (framed_items c.self.inside.frame (items_in bytes))) same i.can_be;
      read = subst (AreRead (in_force [])) same (written_read kept i.written i.can_be.items_follow);
      size = c.data_size.ensures ∙ sym (ap (λ (v : FileValue). data_size v.items) c.self.view_is)
          ∙ ap (λ (bytes : List ℕ). data_size (items_in bytes)) same;
    }
