use Rattle.std.proofs.Common.{◌≡◌, ◌∷◌, [], ◌++◌, refl, List, ℕ, ap, sym, subst, append_assoc, ◌∙◌}
use Rattle.fit_grammar.specs.declared.file.File.TheInside.{Inside}
use Rattle.fit_grammar.specs.Format.Item.{Data}
use Rattle.fit_grammar.specs.Format.Encoding.{encoded_item, data_byte}
use Rattle.fit_grammar.specs.Format.File.{FileValue}
use Rattle.fit_grammar.specs.Calls.Adding.{with_item, IsTooLong}
use Rattle.fit_grammar.specs.Private.KeptFile.{file_view, IsKept}
use Rattle.fit_grammar.specs.Private.ItemRow.{items_in}
use Rattle.fit_grammar.proofs.KeptRow.Following.{bytes_fit, follows_in}
use Rattle.fit_grammar.proofs.KeptRow.InForce.{in_force-data}
use Rattle.fit_grammar.proofs.KeptRow.Kept.{kept}
use Rattle.fit_grammar.proofs.file.File.push_data.Goals as goal

abbrev after : goal.After-unwrap → Inside
after c = record { frame = c.self.inside.frame; records = c.extend_from_slice.new.self; table = c.self.inside.table }

on : (c : goal.After-unwrap)
    → IsKept (after c) × (file_view (after c) ≡ with_item (file_view c.self.inside) (Data c.args.local c.args.offset c.args.content.now))
on c =
    let old = c.self.inside in
    let item = Data c.args.local c.args.offset c.args.content.now in
    let first : c.push_reserved.new.self.items ≡ old.records.items ++ data_byte c.args.local c.args.offset ∷ [] =
    c.push_reserved.ensures.items ∙ ap (λ (b : List ℕ). b ++ c.data_byte.result ∷ []) c.reserve.ensures.items
    ∙ ap (λ (n : ℕ). old.records.items ++ n ∷ []) c.data_byte.ensures in
    let bytes : c.extend_from_slice.new.self.items ≡ old.records.items ++ encoded_item item =
    (rw c.unwrap.ensures at c.extend_from_slice.ensures.items)
    ∙ ap (λ (b : List ℕ). b ++ c.args.content.now) first
    ∙ append_assoc old.records.items (data_byte c.args.local c.args.offset ∷ []) c.args.content.now in
    kept old (after c) item c.self.invariant refl bytes
    (follows_in (file_view old) c.args.self.now item c.self.view_is
    (record {
      encodable = c.requires.encodable;
      fits = bytes_fit c.args.content.now
          (λ i. (c.type_inv.content i).fits);
      defined = c.requires.defined;
    }))
    (λ long. c.requires.fits (subst (λ (v : FileValue). IsTooLong v item) c.self.view_is long))
    (λ l. c.self.invariant.table l ∙ sym (in_force-data (items_in old.records.items) c.args.local c.args.offset c.args.content.now l))

pub invariant_of-self-2 : goal.invariant_of-self-2
invariant_of-self-2 c = (on c).0

pub returns-clause-ok : goal.returns-clause-ok
returns-clause-ok c = (on c).1 ∙ ap (λ (v : FileValue). with_item v (Data c.args.local c.args.offset c.args.content.now)) c.self.view_is
