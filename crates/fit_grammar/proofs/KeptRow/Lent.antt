-- The items that a file lends: they are its items, they encode its messages, and they have their definitions. For
-- `File::items`, and for callers that keep the definition in force of each local number.
use Rattle.std.proofs.Common.{◌≡◌, ℕ, ◌<◌, List, [], ◌∷◌, ◌++◌, length, map, Option, Some, None, refl, sym, ap, subst, ◌∙◌, arith, ◌≢◌, ◌⊎◌, inl, inr}
use Rattle.std.proofs.lemmas.Bool.Decides.{eqb_tells}
use Rattle.std.proofs.lemmas.Option.{same_Some}
use Rattle.std.specs.Prelude.{unwrap_or, option_map, option_to_list, IsSomeAnd}
use Rattle.fit_grammar.specs.declared.definition.Definition.{Definition}
use Rattle.fit_grammar.specs.Format.Item.{Item, Defines, Data, content_size}
use Rattle.fit_grammar.specs.Format.Records.{in_force}
use Rattle.fit_grammar.specs.Format.Encoding.{HasEncoding}
use Rattle.fit_grammar.specs.Format.Message.{Message, message_under, compressed_time, time_given, messages_after}
use Rattle.fit_grammar.specs.Calls.Table.{in_force_after}
use Rattle.fit_grammar.specs.Calls.LentItem.{LentItem, DataHere, data_under, item_lent, messages_in, lent_after, AllUnder}
use Rattle.fit_grammar.specs.Calls.Possible.{AllCanFollow}
use Rattle.fit_grammar.proofs.KeptRow.ByLookup.{in_force_after-in_force}

-- a data message before others, if this is the definition of its local number
abbrev front : Option Definition → ℕ → Option ℕ → Option ℕ → List ℕ → List LentItem → List LentItem
front o local offset time content others = option_to_list (option_map (λ d. DataHere (data_under d local offset time content)) o) ++ others

front_message : (o : Option Definition) (local : ℕ) (offset time : Option ℕ) (content : List ℕ) (others : List LentItem)
    → messages_in (front o local offset time content others)
    ≡ option_to_list (option_map (λ d. message_under d time content) o) ++ messages_in others
front_message None local offset time content others = refl
front_message (Some d) local offset time content others = refl

-- they encode the messages
pub lent_messages : (before : List Item) (time : ℕ) (items : List Item)
    → messages_in (lent_after before time items) ≡ messages_after before time items
lent_messages before time [] = refl
lent_messages before time (Defines d ∷ items) = lent_messages (before ++ Defines d ∷ []) time items
lent_messages before time (Data local offset content ∷ items) =
    let item = Data local offset content in
    let after = unwrap_or (time_given before time item) time in
    front_message (in_force before local) local offset (compressed_time time offset) content (lent_after (before ++ item ∷ []) after items)
    ∙ ap (λ (ms : List Message). option_to_list (option_map (λ d. message_under d (compressed_time time offset) content)
    (in_force before local)) ++ ms) (lent_messages (before ++ item ∷ []) after items)

front_item : (o : Option Definition) (local : ℕ) (offset time : Option ℕ) (content : List ℕ) (others : List LentItem)
    → IsSomeAnd o (λ d. content_size d ≡ length content)
    → map item_lent (front o local offset time content others) ≡ Data local offset content ∷ map item_lent others
front_item None local offset time content others there = absurd there
front_item (Some d) local offset time content others there = refl

-- they are the items
pub lent_are : (before : List Item) (time : ℕ) (items : List Item) → AllCanFollow before items
    → map item_lent (lent_after before time items) ≡ items
lent_are before time [] a = refl
lent_are before time (Defines d ∷ items) a =
    ap (λ (is : List Item). Defines d ∷ is) (lent_are (before ++ Defines d ∷ []) time items a.1)
lent_are before time (Data local offset content ∷ items) a =
    let item = Data local offset content in
    let after = unwrap_or (time_given before time item) time in
    front_item (in_force before local) local offset (compressed_time time offset) content
    (lent_after (before ++ item ∷ []) after items) a.0.defined
    ∙ ap (λ (is : List Item). item ∷ is) (lent_are (before ++ item ∷ []) after items a.1)

small_local : (local : ℕ) (offset : Option ℕ) (content : List ℕ) → HasEncoding (Data local offset content) → local < 16
small_local local None content small = small
small_local local (Some offset) content can = omega (arith, can.0)

front_under : (f : ℕ → Option Definition) (o : Option Definition) (local : ℕ) (offset time : Option ℕ) (content : List ℕ)
    → (others : List LentItem) → f local ≡ o → local < 16 → AllUnder f others → AllUnder f (front o local offset time content others)
front_under f None local offset time content others is small under = under
front_under f (Some d) local offset time content others is small under = (small, is, under)

-- and they have their definitions
pub lent_under : (before : List Item) (time : ℕ) (items : List Item) → AllCanFollow before items
    → AllUnder (in_force before) (lent_after before time items)
lent_under before time [] a = tt
lent_under before time (Defines d ∷ items) a = (
  a.0.encodable,
  subst (λ (f : ℕ → Option Definition). AllUnder f (lent_after (before ++ Defines d ∷ []) time items))
      (sym (in_force_after-in_force before (Defines d))) (lent_under (before ++ Defines d ∷ []) time items a.1),
)
lent_under before time (Data local offset content ∷ items) a =
    let item = Data local offset content in
    let after = unwrap_or (time_given before time item) time in
    front_under (in_force before) (in_force before local) local offset (compressed_time time offset) content
    (lent_after (before ++ item ∷ []) after items) refl (small_local local offset content a.0.encodable)
    (subst (λ (f : ℕ → Option Definition). AllUnder f (lent_after (before ++ item ∷ []) after items))
    (sym (in_force_after-in_force before item)) (lent_under (before ++ item ∷ []) after items a.1))

-- the definition in force after a definition
pub after_defines : (d e : Definition) (f : ℕ → Option Definition) (local : ℕ) → in_force_after (Defines d) f local ≡ Some e
    → ((local ≡ d.local) × (d ≡ e)) ⊎ ((local ≢ d.local) × (f local ≡ Some e))
after_defines d e f local is =
    elim (eqb_tells d.local local) [
      | inl same ↦ inl (sym same.1, same_Some d e (rw same.0 at is))
      | inr other ↦ inr ((λ e. other.1 (sym e)), rw other.0 at is)
    ]
