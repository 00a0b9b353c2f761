-- A row of items that has no compressed timestamp is its own plain form.
use Rattle.std.proofs.Common.{◌≡◌, ℕ, List, [], ◌∷◌, ◌++◌, Bool, false, length, Option, Some, None, refl, sym, ap, ◌∙◌}
use Rattle.std.specs.Prelude.{slice_set, option_map, option_to_list, unwrap_or, IsSomeAnd}
use Rattle.std.specs.List.{AllByRecursion}
use Rattle.std.proofs.lemmas.Option.{none-some}
use Rattle.fit_grammar.specs.declared.definition.Definition.{Definition}
use Rattle.fit_grammar.specs.Format.Item.{Item, Defines, Data, content_size}
use Rattle.fit_grammar.specs.Format.Records.{in_force}
use Rattle.fit_grammar.specs.Format.Message.{time_given}
use Rattle.fit_grammar.specs.Calls.Possible.{AllCanFollow}
use Rattle.fit_grammar.specs.Calls.LentItem.{LentItem, DataHere, data_under, lent_after}
use Rattle.fit_grammar.specs.Calls.PlainForm.{is_timed, definitions_before, plain_after, IsPlain}
use Rattle.fit_grammar.proofs.PlainForm.Taken.{set_again}

-- a data message before others
front : (timed : List Bool) (o : Option Definition) (local : ℕ) (content : List ℕ) (others : List LentItem) → is_timed timed local ≡ false
    → IsSomeAnd o (λ d. content_size d ≡ length content)
    → plain_after timed (option_to_list (option_map (λ d. DataHere (data_under d local None None content)) o) ++ others)
    ≡ Data local None content ∷ plain_after timed others
front timed None local content others flag there = absurd there
front timed (Some d) local content others flag there =
    ap (λ (b : Bool). (definitions_before b false d ++ Data local None content ∷ []) ++ plain_after (slice_set timed local false) others) flag
    ∙ ap (λ (t : List Bool). Data local None content ∷ plain_after t others) (set_again timed local false flag)

pub unchanged : (timed : List Bool) (before : List Item) (time : ℕ) (items : List Item) → ((l : ℕ) → is_timed timed l ≡ false)
    → AllCanFollow before items → AllByRecursion IsPlain items → plain_after timed (lent_after before time items) ≡ items
unchanged timed before time [] none follow plain = refl
unchanged timed before time (Defines d ∷ items) none follow plain =
    ap (λ (t : List Bool). Defines d ∷ plain_after t (lent_after (before ++ Defines d ∷ []) time items)) (set_again timed d.local false (none d.local))
    ∙ ap (λ (is : List Item). Defines d ∷ is) (unchanged timed (before ++ Defines d ∷ []) time items none follow.1 plain.1)
unchanged timed before time (Data local (Some offset) content ∷ items) none follow plain = absurd (none-some offset (sym plain.0))
unchanged timed before time (Data local None content ∷ items) none follow plain =
    let item = Data local None content in
    let after = unwrap_or (time_given before time item) time in
    front timed (in_force before local) local content (lent_after (before ++ item ∷ []) after items) (none local) follow.0.defined
    ∙ ap (λ (is : List Item). item ∷ is) (unchanged timed (before ++ item ∷ []) after items none follow.1 plain.1)
