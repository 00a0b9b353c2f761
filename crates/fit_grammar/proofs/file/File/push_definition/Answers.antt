use Rattle.std.proofs.Common.{◌≡◌, ◌++◌, refl, List, ℕ, ap, subst, ◌∙◌}
use Rattle.fit_grammar.specs.declared.definition.Definition.{Definition}
use Rattle.fit_grammar.specs.declared.file.File.TheInside.{Inside}
use Rattle.fit_grammar.specs.Format.Item.{Defines}
use Rattle.fit_grammar.specs.Format.Encoding.{encoded_item}
use Rattle.fit_grammar.specs.Format.File.{FileValue}
use Rattle.fit_grammar.specs.Calls.Adding.{with_item, IsTooLong}
use Rattle.fit_grammar.specs.Private.KeptFile.{file_view, IsKept}
use Rattle.fit_grammar.specs.Private.ItemRow.{items_in}
use Rattle.fit_grammar.proofs.KeptRow.Kept.{kept, table-take}
use Rattle.fit_grammar.proofs.file.File.push_definition.Goals as goal

abbrev after : goal.After-keep → Inside
after c = record { frame = c.self.inside.frame; records = c.extend_from_slice.new.self; table = c.keep.new.self }

on : (c : goal.After-keep) → IsKept (after c) × (file_view (after c) ≡ with_item (file_view c.self.inside) (Defines c.args.d.now))
on c =
    let old = c.self.inside in
    let d = c.args.d.now in
    let same = c.new-written.ensures.same in
    let bytes : c.extend_from_slice.new.self.items ≡ old.records.items ++ encoded_item (Defines d) =
    c.in_ok-extend_from_slice.ensures.items ∙ ap (λ (b : List ℕ). old.records.items ++ b)
    (c.bytes.ensures ∙ ap (λ (e : Definition). encoded_item (Defines e)) same) in
    let taken = rw same at c.keep.ensures in
    kept old (after c) (Defines d) c.self.invariant refl bytes
    (record { encodable = c.requires.local; fits = c.new-written.ensures.fits; defined = tt })
    (λ long. c.requires.fits (subst (λ (v : FileValue). IsTooLong v (Defines d)) c.self.view_is long))
    (table-take old.table c.keep.new.self (items_in old.records.items) d c.self.invariant.table taken.taken taken.others)

pub invariant_of-self-2 : goal.invariant_of-self-2
invariant_of-self-2 c = (on c).0

pub returns-clause-ok : goal.returns-clause-ok
returns-clause-ok c = (on c).1 ∙ ap (λ (v : FileValue). with_item v (Defines c.args.d.now)) c.self.view_is
