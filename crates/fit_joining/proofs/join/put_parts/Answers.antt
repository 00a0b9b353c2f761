use Rattle.std.proofs.Common.{◌≡◌, ◌++◌, ◌∷◌, ◌-◌, ◌<◌, ◌≤◌, ℕ, Bool, List, [], length, Option, get_or, take, drop, refl, sym, ap, subst, ◌∙◌, arith}
use Rattle.std.specs.List.{AllByRecursion}
use Rattle.std.proofs.lemmas.List.{take_all}
use Rattle.std.proofs.lemmas.Grind.{flat_map-append}
use Rattle.fit_grammar.specs.Format.Encoding.{encoded_item, encoded_items}
use Rattle.fit_grammar.specs.Format.Message.{messages_of}
use Rattle.fit_grammar.specs.Calls.PlainForm.{IsPlain}
use Rattle.fit_grammar.specs.Calls.Possible.{CanBeFile}
use Rattle.fit_joining.specs.declared.part.Part.{Part}
use Rattle.fit_joining.specs.declared.tally.Tally.{Tally}
use Rattle.fit_joining.specs.Makers.{Maker, declared_past, no_makers}
use Rattle.fit_joining.specs.Part.{tally_before, tally_past}
use Rattle.fit_joining.specs.Joined.{first_tally, is_followed, laps_stay, next_tally}
use Rattle.fit_joining.specs.JoinedItems.{items_after, one_items, own_messages, parts_items}
use Rattle.fit_joining.proofs.Leaves.{leaves_all, leaves_next, leaves_off, leaves_none}
use Rattle.fit_joining.proofs.join.put_parts.Goals as goal

-- the parts that are left are one and those after it
split : (parts : List Part) (part : Part) → 1 ≤ length parts → part ≡ get_or parts 0 part → parts ≡ part ∷ take (length parts - 1) (drop 1 parts)
split [] part some is = absurd (omega arith)
split (first ∷ parts) part some is =
    ap (λ (p : Part). p ∷ parts) (sym is)
    ∙ ap (λ (others : List Part). part ∷ others) (sym (take_all (length (first ∷ parts) - 1) parts (omega arith)))

-- the bytes of a part, and of those after it
pieces : (makers heard : List (Option Maker)) (given : List (Option ℕ)) (s t u : Tally) (followed : Bool) (parts others : List Part) (part : Part)
    → parts ≡ part ∷ others → t ≡ tally_before s (messages_of part.file.items) → given ≡ (declared_past makers (messages_of part.file.items)).given
    → heard ≡ (declared_past makers (messages_of part.file.items)).makers → followed ≡ is_followed (own_messages others)
    → u ≡ next_tally (tally_past t (messages_of part.file.items))
    → encoded_items (items_after makers s parts)
    ≡ encoded_items (one_items given t followed part.file.items) ++ encoded_items (items_after heard u others)
pieces makers heard given s t u followed parts others part is begun_is given_is heard_is followed_is next =
    let past = declared_past makers (messages_of part.file.items) in
    let after = next_tally (tally_past t (messages_of part.file.items)) in
    ap (λ (ps : List Part). encoded_items (items_after makers s ps)) is
    ∙ ap (λ (k : Tally). encoded_items (one_items past.given k (is_followed (own_messages others)) part.file.items
    ++ items_after past.makers (next_tally (tally_past k (messages_of part.file.items))) others)) (sym begun_is)
    ∙ flat_map-append encoded_item (one_items past.given t (is_followed (own_messages others)) part.file.items) (items_after past.makers after others)
    ∙ ap (λ (g : List (Option ℕ)). encoded_items (one_items g t (is_followed (own_messages others)) part.file.items)
    ++ encoded_items (items_after past.makers after others)) (sym given_is)
    ∙ ap (λ (m : List (Option Maker)). encoded_items (one_items given t (is_followed (own_messages others)) part.file.items)
    ++ encoded_items (items_after m after others)) (sym heard_is)
    ∙ ap (λ (b : Bool). encoded_items (one_items given t b part.file.items) ++ encoded_items (items_after heard after others)) (sym followed_is)
    ∙ ap (λ (k : Tally). encoded_items (one_items given t followed part.file.items) ++ encoded_items (items_after heard k others)) (sym next)

-- before the first part
begun : (makers : List (Option Maker)) (t : Tally) (keeps : Bool) (parts : List Part) → makers ≡ no_makers → t ≡ first_tally keeps
    → keeps ≡ laps_stay (own_messages parts) → encoded_items (parts_items parts) ≡ encoded_items (items_after makers t parts)
begun makers t keeps parts none is keeps_is =
    ap (λ (m : List (Option Maker)). encoded_items (items_after m (first_tally (laps_stay (own_messages parts))) parts)) (sym none)
    ∙ ap (λ (k : Tally). encoded_items (items_after makers k parts)) (sym (is ∙ ap first_tally keeps_is))

none_left : (makers : List (Option Maker)) (t : Tally) (parts : List Part) → length parts < 1 → encoded_items (items_after makers t parts) ≡ []
none_left makers t [] none = refl
none_left makers t (part ∷ parts) none = absurd (omega (arith, none))

pub returns-in_err-now-clause-text : goal.returns-in_err-now-clause-text
returns-in_err-now-clause-text g c =
    let first = c.args.first.now in
    let others = c.args.others.now in
    let t = c.first-tally.result in
    let u = c.before-begun.result in
    let next = next_tally (tally_past u (messages_of first.file.items)) in
    let none = c.new-makers.result in
    let heard = c.take_part-given.new.self in
    leaves_off c.put_one.new.checksum (encoded_items (items_after heard next others)) c.from_residual.ensures.0
    (leaves_all (g.S.Sink.held c.args.out.now) c.args.checksum.now (encoded_items (parts_items (first ∷ others)))
    (encoded_items (items_after none t (first ∷ others)))
    (begun none t c.laps_stay.result (first ∷ others) c.new-makers.ensures c.first-tally.ensures c.laps_stay.ensures))
    c.in_err-now.ensures.text
    (pieces none heard c.take_part-given.result t u next c.is_followed.result (first ∷ others) others first refl c.before-begun.ensures c.take_part-given.ensures.given
    c.take_part-given.ensures.makers c.is_followed.ensures refl)

pub loop-rest-init : goal.loop-rest-init
loop-rest-init g c =
    let first = c.args.first.now in
    let others = c.args.others.now in
    let t = c.first-tally.result in
    let none = c.new-makers.result in
    let heard = c.take_part-given.new.self in
    record {
      plain = c.requires.others;
      possible = λ all. (c.in_ok-now.ensures.possible, all);
      so_far = leaves_next (encoded_items (items_after heard c.in_ok-now.now others))
          (leaves_all (g.S.Sink.held c.args.out.now) c.args.checksum.now (encoded_items (parts_items (first ∷ others)))
          (encoded_items (items_after none t (first ∷ others)))
          (begun none t c.laps_stay.result (first ∷ others) c.new-makers.ensures c.first-tally.ensures c.laps_stay.ensures))
          c.in_ok-now.ensures.text
          (pieces none heard c.take_part-given.result t c.before-begun.result c.in_ok-now.now c.is_followed.result (first ∷ others) others first refl c.before-begun.ensures
          c.take_part-given.ensures.given c.take_part-given.ensures.makers c.is_followed.ensures c.in_ok-now.ensures.tally);
    }

pub returns-in_err-now-2-clause-text : goal.returns-in_err-now-2-clause-text
returns-in_err-now-2-clause-text g c =
    let left = c.loop-rest.rest.now in
    let others = take (length left - 1) (drop 1 left) in
    let part = c.part-item.result in
    let u = c.before-begun-in-len1-up.result in
    let next = next_tally (tally_past u (messages_of part.file.items)) in
    let heard = c.take_part-given-in-len1-up.new.self in
    leaves_off c.put_one-in-len1-up.new.checksum (encoded_items (items_after heard next others)) c.from_residual-in_err-now-2.ensures.0
    c.loop-rest.invariant.so_far c.in_err-now-2.ensures.text
    (pieces c.loop-rest.makers heard c.take_part-given-in-len1-up.result c.loop-rest.now u next c.is_followed-in-len1-up.result left others part
    (split left part c.in-len1-up.len_at_least c.part-item.is) c.before-begun-in-len1-up.ensures c.take_part-given-in-len1-up.ensures.given
    c.take_part-given-in-len1-up.ensures.makers c.is_followed-in-len1-up.ensures refl)

pub loop-rest-preserved : goal.loop-rest-preserved
loop-rest-preserved g c =
    let left = c.loop-rest.rest.now in
    let others = take (length left - 1) (drop 1 left) in
    let part = c.part-item.result in
    let is = split left part c.in-len1-up.len_at_least c.part-item.is in
    let plain = subst (AllByRecursion (λ (p : Part). AllByRecursion IsPlain p.file.items)) is c.loop-rest.invariant.plain in
    record {
      plain = plain.1;
      possible = λ all. c.loop-rest.invariant.possible
          (subst (AllByRecursion (λ (p : Part). CanBeFile p.file)) (sym is) (c.in_ok-now-2.ensures.possible, all));
      so_far = leaves_next (encoded_items (items_after c.take_part-given-in-len1-up.new.self c.in_ok-now-2.now others))
          c.loop-rest.invariant.so_far c.in_ok-now-2.ensures.text
          (pieces c.loop-rest.makers c.take_part-given-in-len1-up.new.self c.take_part-given-in-len1-up.result c.loop-rest.now c.before-begun-in-len1-up.result c.in_ok-now-2.now
          c.is_followed-in-len1-up.result left others part is c.before-begun-in-len1-up.ensures c.take_part-given-in-len1-up.ensures.given
          c.take_part-given-in-len1-up.ensures.makers c.is_followed-in-len1-up.ensures c.in_ok-now-2.ensures.tally);
    }

pub returns-clause-text : goal.returns-clause-text
returns-clause-text g c =
    leaves_none tt (none_left c.loop-rest.makers c.loop-rest.now c.loop-rest.rest.now c.in_default.len_below) c.loop-rest.invariant.so_far
