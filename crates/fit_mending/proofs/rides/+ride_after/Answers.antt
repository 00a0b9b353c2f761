use Rattle.std.proofs.Common.{◌≡◌, ℕ, ◌-◌, List, Option, IsTrue, false, refl, sym, ap, subst, ◌∙◌, arith}
use Rattle.std.proofs.lemmas.Option.{IfSome_then}
use Rattle.fit_grammar.specs.declared.definition.Definition.{Definition}
use Rattle.fit_grammar.specs.declared.item.Item.{Item as ReadItem}
use Rattle.fit_grammar.specs.declared.item.Item.TheVariants as items
use Rattle.fit_grammar.specs.declared.item.data_message.DataMessage.{DataMessage}
use Rattle.fit_grammar.specs.Format.Item.{Item}
use Rattle.fit_grammar.specs.Calls.Step.{item_of}
use Rattle.fit_grammar.specs.Calls.Table.{definition_in, in_force_after}
use Rattle.fit_mending.specs.Others.{GoesOn}
use Rattle.fit_mending.proofs.Riding.{ends_goes, less_goes, more_goes, stops_goes}
use Rattle.fit_mending.proofs.rides.+ride_after.Goals as goal

-- a data message changes no definition
same_after : (f : ℕ → Option Definition) (item : ReadItem) (m : DataMessage) → item ≡ items.Data m → f ≡ in_force_after (item_of item) f
same_after f item m is = subst (λ (i : ReadItem). f ≡ in_force_after (item_of i) f) (sym is) refl

taken_over : (own latest : List (Option Definition)) (item : Item) (g : ℕ → Option Definition) → g ≡ in_force_after item (definition_in own)
    → own ≡ latest → g ≡ in_force_after item (definition_in latest)
taken_over own latest item g e same = e ∙ ap (λ (t : List (Option Definition)). in_force_after item (definition_in t)) same

not_true : IsTrue false → ⊥
not_true is = cc

pub returns-in_default : goal.returns-in_default
returns-in_default t c = record {
  some = tt;
  none = λ none time on.
      stops_goes (definition_in c.args.latest.now) c.args.bytes.now c.step_after.result c.args.most c.args.so_far time on
      (λ is. not_true (c.if-is_ride.ensures.1 is)) c.step_after.ensures.states c.in_default.not-Item;
}

pub returns-in_err-more-clause-none : goal.returns-in_err-more-clause-none
returns-in_err-more-clause-none t c = λ none time on.
    ends_goes (definition_in c.args.latest.now) c.args.bytes.now c.in-Item.item c.in-Item.used c.args.most c.args.so_far time on
    (λ is. not_true (c.if-is_ride.ensures.1 is)) c.in-Item.ensures (sym c.in_err-more.ensures)

pub returns-in-Data-clause-some : goal.returns-in-Data-clause-some
returns-in-Data-clause-some t c =
    let f = definition_in c.args.latest.now in
    IfSome_then c.ride_after.result c.ride_after.ensures.some
    (λ time on. more_goes f f c.args.bytes.now c.in-Item.item c.in-Item.used c.args.most c.args.so_far c.in_ok-more.more time
    c.in-Item.ensures (sym c.in_ok-more.ensures) (same_after f c.in-Item.item c.in-Data.field-0 c.in-Data.is) (omega (arith, c.if-most-eq0.false))
    (subst (λ (l : List ℕ). GoesOn (c.args.most - 1) f c.in_ok-more.more l time) c.split_at.ensures.back on))

pub returns-in-Data-clause-none : goal.returns-in-Data-clause-none
returns-in-Data-clause-none t c = λ none time on.
    let f = definition_in c.args.latest.now in
    c.ride_after.ensures.none none time
    (subst (λ (l : List ℕ). GoesOn (c.args.most - 1) f c.in_ok-more.more l time) (sym c.split_at.ensures.back)
    (less_goes f f c.args.bytes.now c.in-Item.item c.in-Item.used c.args.most c.args.so_far c.in_ok-more.more time on
    (λ is. not_true (c.if-is_ride.ensures.1 is)) c.in-Item.ensures (sym c.in_ok-more.ensures)
    (same_after f c.in-Item.item c.in-Data.field-0 c.in-Data.is)))

pub returns-in-Definition-clause-some : goal.returns-in-Definition-clause-some
returns-in-Definition-clause-some t c =
    let f = definition_in c.args.latest.now in
    let g = definition_in c.take_over.new.latest in
    IfSome_then c.ride_after-in-Definition.result c.ride_after-in-Definition.ensures.some
    (λ time on. more_goes f g c.args.bytes.now c.in-Item.item c.in-Item.used c.args.most c.args.so_far c.in_ok-more.more time
    c.in-Item.ensures (sym c.in_ok-more.ensures) (taken_over c.again-own.result c.args.latest.now (item_of c.in-Item.item) g c.take_over.ensures c.again-own.ensures) (omega (arith, c.if-most-eq0.false))
    (subst (λ (l : List ℕ). GoesOn (c.args.most - 1) g c.in_ok-more.more l time) c.split_at.ensures.back on))

pub returns-in-Definition-clause-none : goal.returns-in-Definition-clause-none
returns-in-Definition-clause-none t c = λ none time on.
    let f = definition_in c.args.latest.now in
    let g = definition_in c.take_over.new.latest in
    c.ride_after-in-Definition.ensures.none none time
    (subst (λ (l : List ℕ). GoesOn (c.args.most - 1) g c.in_ok-more.more l time) (sym c.split_at.ensures.back)
    (less_goes f g c.args.bytes.now c.in-Item.item c.in-Item.used c.args.most c.args.so_far c.in_ok-more.more time on
    (λ is. not_true (c.if-is_ride.ensures.1 is)) c.in-Item.ensures (sym c.in_ok-more.ensures) (taken_over c.again-own.result c.args.latest.now (item_of c.in-Item.item) g c.take_over.ensures c.again-own.ensures)))
