use Rattle.std.proofs.Common.{rules, ◌+◌, [], List, ℕ, length, take, sym, ap, subst, ◌∙◌, arith}
use Rattle.std.proofs.lemmas.List.{length-drop}
use Rattle.fit_grammar.specs.Format.Item.{Item}
use Rattle.fit_grammar.specs.Format.Records.{in_force, data_size}
use Rattle.fit_grammar.specs.Calls.Possible.{CanBeFile}
use Rattle.fit_grammar.specs.Private.ItemRow.{items_in, AreRead}
use Rattle.fit_grammar.specs.Private.Passing.{framed_items}
use Rattle.fit_grammar.proofs.Decoding.Longer.{reached_within}
use Rattle.fit_grammar.proofs.KeptRow.Following.{bytes_fit}
use Rattle.fit_grammar.proofs.LentRow.Passed.{items_passed, records_read, passed_fits}
use Rattle.fit_grammar.proofs.file.lent.LentFile.of_passed.Goals as goal

pub split_at-requires : goal.split_at-requires
split_at-requires c =
    let p = c.requires in
    let end = c.args.header.frame.header_size + c.args.header.data_size in
    let within = reached_within c.args.bytes.now (framed_items c.args.header.frame p.items) end end p.reached in
    omega (arith, within.0)

pub split_at-requires-2 : goal.split_at-requires-2
split_at-requires-2 c =
    let p = c.requires in
    let end = c.args.header.frame.header_size + c.args.header.data_size in
    let within = reached_within c.args.bytes.now (framed_items c.args.header.frame p.items) end end p.reached in
    omega (arith, within.0, ap length c.split_at.ensures.back, length-drop c.args.header.frame.header_size c.args.bytes.now)

pub invariant_of-result : goal.invariant_of-result
invariant_of-result c =
    let b = c.args.bytes.now in
    let h = c.args.header in
    let p = c.requires in
    let there = sym (c.split_at-2.ensures.front ∙ ap (take h.data_size) c.split_at.ensures.back) in
    let items = sym (items_passed b h c.args.size p) ∙ ap items_in there in
    record {
      can_be = subst (λ (is : List Item). CanBeFile (framed_items h.frame is)) items
          (passed_fits b h c.args.size p (record { protocol = search rules; profile = search rules })
          (bytes_fit b (λ i. (c.type_inv.bytes i).fits)));
      read = subst (AreRead (in_force [])) there (records_read b h c.args.size p);
      size = p.size_is ∙ ap data_size items;
    }

pub returns : goal.returns
returns c = λ p.
    let h = c.args.header in
    ap (λ (bytes : List ℕ). framed_items h.frame (items_in bytes)) (c.split_at-2.ensures.front ∙ ap (take h.data_size) c.split_at.ensures.back)
    ∙ ap (λ (is : List Item). framed_items h.frame is) (items_passed c.args.bytes.now h c.args.size p)
