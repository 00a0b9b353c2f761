-- A row of items whose numbers fit and whose data messages are defined stays one with another item: for `File::data` and
-- `Kept`.
use Rattle.std.proofs.Common.{◌≡◌, ℕ, ◌+◌, ◌^◌, ◌<◌, List, [], ◌∷◌, ◌++◌, get_or, suc, Option, Some, None, refl, sym, ap, subst, ◌∙◌, append_assoc, arith, inl, inr}
use Rattle.std.specs.List.{AllByRecursion}
use Rattle.std.specs.Option.{option_or}
use Rattle.std.proofs.lemmas.List.{append-nil}
use Rattle.std.proofs.lemmas.List.Sums.{sum_by-append}
use Rattle.std.proofs.lemmas.Bool.{cases_lt}
use Rattle.std.proofs.lemmas.Bool.Decides.{eqb_tells}
use Rattle.std.proofs.lemmas.Option.{none-some}
use Rattle.fit_grammar.specs.declared.definition.Definition.{Definition}
use Rattle.fit_grammar.specs.Format.Item.{Item, Defines, Data, item_size}
use Rattle.fit_grammar.specs.Format.Records.{definition_by, in_force, data_size}
use Rattle.fit_grammar.specs.Format.Encoding.{HasEncoding}
use Rattle.fit_grammar.specs.Format.File.{FileValue}
use Rattle.fit_grammar.specs.Calls.Adding.{with_item, IsTooLong, IsOffset}
use Rattle.fit_grammar.specs.Calls.Possible.{CanFollow, AllCanFollow, CanBeFile}

pub AllCanFollow-push : (before items : List Item) (item : Item) → AllCanFollow before items
    → CanFollow (before ++ items) item → AllCanFollow before (items ++ item ∷ [])
AllCanFollow-push before [] item a h = (subst (λ (l : List Item). CanFollow l item) (append-nil before) h, tt)
AllCanFollow-push before (first ∷ items) item a h = (
  a.0,
  AllCanFollow-push (before ++ first ∷ []) items item a.1
      (subst (λ (l : List Item). CanFollow l item) (sym (append_assoc before (first ∷ []) items)) h),
)

pub data_size-push : (items : List Item) (item : Item) → data_size (items ++ item ∷ []) ≡ data_size items + item_size item
data_size-push items item = sum_by-append item_size items (item ∷ []) ∙ ap (λ (n : ℕ). data_size items + n) (omega arith)

-- a file can still be one after an item that can follow and is not too long
pub CanBeFile-push : (v : FileValue) (item : Item) → CanBeFile v → CanFollow v.items item → (IsTooLong v item → ⊥)
    → CanBeFile (with_item v item)
CanBeFile-push v item h follows short =
    record {
      is_frame = h.is_frame;
      frame_fits = h.frame_fits;
      items_follow = AllCanFollow-push [] v.items item h.items_follow follows;
      bound = elim (cases_lt (data_size v.items + item_size item) (2 ^ 32)) [
        | inl lt ↦ omega (arith, data_size-push v.items item)
        | inr le ↦ absurd (short le)
      ];
    }

-- an item that can follow can follow an equal file
pub follows_in : (v w : FileValue) (item : Item) → v ≡ w → CanFollow w.items item → CanFollow v.items item
follows_in v w item e h = subst (λ (u : FileValue). CanFollow u.items item) (sym e) h

-- bytes that fit one by one
pub bytes_fit : (bytes : List ℕ) → ((i : ℕ) → get_or bytes i 0 < 256) → AllByRecursion (λ byte. byte < 256) bytes
bytes_fit [] h = tt
bytes_fit (byte ∷ bytes) h = (h 0, bytes_fit bytes (λ i. h (suc i)))

pub bytes_fit-append : (xs ys : List ℕ) → AllByRecursion (λ byte. byte < 256) xs → AllByRecursion (λ byte. byte < 256) ys
    → AllByRecursion (λ byte. byte < 256) (xs ++ ys)
bytes_fit-append [] ys x y = y
bytes_fit-append (byte ∷ xs) ys x y = (x.0, bytes_fit-append xs ys x.1 y)

-- a local number that has a definition is below 16
given_small : (item : Item) (l : ℕ) (d : Definition) → HasEncoding item → definition_by item l ≡ Some d → l < 16
given_small (Defines c) l d fits e =
    elim (eqb_tells c.local l) [
      | inl same ↦ let below : c.local < 16 = fits in omega (arith, same.1)
      | inr other ↦ let none = rw other.0 at e in absurd (none-some d none)
    ]
given_small (Data local offset content) l d fits e = absurd (none-some d e)

either_small : (item : Item) (l : ℕ) (d : Definition) (o : Option Definition) → HasEncoding item → ((c : Definition) → o ≡ Some c → l < 16)
    → option_or o (definition_by item l) ≡ Some d → l < 16
either_small item l d None fits after e = given_small item l d fits e
either_small item l d (Some c) fits after e = after c refl

pub in_force_small : (before items : List Item) (l : ℕ) (d : Definition) → AllCanFollow before items → in_force items l ≡ Some d → l < 16
in_force_small before [] l d a e = absurd (none-some d e)
in_force_small before (item ∷ items) l d a e =
    either_small item l d (in_force items l) a.0.encodable (λ c i. in_force_small (before ++ item ∷ []) items l c a.1 i) e

pub data_has_encoding : (local : ℕ) (offset : Option ℕ) (content : List ℕ) → local < 16 → IsOffset local offset
    → HasEncoding (Data local offset content)
data_has_encoding local None content small can = small
data_has_encoding local (Some offset) content small can = can
