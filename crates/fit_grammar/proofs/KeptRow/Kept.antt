-- A file stays well kept when an item is added to it: for `push_definition`, `push_data` and `push_timed`.
use Rattle.std.proofs.Common.{◌≡◌, ◌≢◌, ℕ, List, [], ◌∷◌, ◌++◌, Option, Some, sym, ap, subst, ◌∙◌, inl, inr}
use Rattle.std.proofs.lemmas.Bool.Decides.{eqb_tells}
use Rattle.fit_grammar.specs.declared.definition.Definition.{Definition}
use Rattle.fit_grammar.specs.declared.file.File.TheInside.{Inside}
use Rattle.fit_grammar.specs.declared.file.frame.Frame.{Frame}
use Rattle.fit_grammar.specs.Format.Item.{Item, Defines}
use Rattle.fit_grammar.specs.Format.Records.{in_force}
use Rattle.fit_grammar.specs.Format.Encoding.{encoded_item, encoded_items}
use Rattle.fit_grammar.specs.Format.File.{FileValue}
use Rattle.fit_grammar.specs.Calls.Adding.{with_item, IsTooLong}
use Rattle.fit_grammar.specs.Calls.Possible.{CanFollow, CanBeFile}
use Rattle.fit_grammar.specs.Private.ItemRow.{items_in}
use Rattle.fit_grammar.specs.Private.KeptFile.{file_view, IsKept}
use Rattle.fit_grammar.specs.Calls.Table.{definition_in}
use Rattle.fit_grammar.proofs.KeptRow.Following.{CanBeFile-push}
use Rattle.fit_grammar.proofs.KeptRow.InForce.{in_force-defines, in_force-others}
use Rattle.fit_grammar.proofs.KeptRow.ReadAgain.{items_in-push, encoded_items-push}

-- a table that takes a definition has the definitions in force after it
pub table-take : (old new : List (Option Definition)) (items : List Item) (d : Definition)
    → ((l : ℕ) → definition_in old l ≡ in_force items l)
    → definition_in new d.local ≡ Some d → ((l : ℕ) → l ≢ d.local → definition_in new l ≡ definition_in old l)
    → (l : ℕ) → definition_in new l ≡ in_force (items ++ Defines d ∷ []) l
table-take old new items d agrees taken others l =
    elim (eqb_tells l d.local) [
      | inl same ↦ rw same.1 (taken ∙ sym (in_force-defines items d))
      | inr other ↦ others l other.1 ∙ agrees l ∙ sym (in_force-others items d l other.1)
    ]

abbrev file_by : Frame → List Item → FileValue
file_by frame items = record { frame = frame; items = items }

-- a file with the bytes of one more item is well kept, and is the file with that item
pub kept : (old new : Inside) (item : Item) → IsKept old → new.frame ≡ old.frame
    → new.records.items ≡ old.records.items ++ encoded_item item
    → CanFollow (file_view old).items item → (IsTooLong (file_view old) item → ⊥)
    → ((l : ℕ) → definition_in new.table l ≡ in_force (items_in old.records.items ++ item ∷ []) l)
    → IsKept new × (file_view new ≡ with_item (file_view old) item)
kept old new item k frame records follows short table =
    let items = items_in old.records.items in
    let can_be = CanBeFile-push (file_view old) item k.can_be follows short in
    let items_are : items_in new.records.items ≡ items ++ item ∷ [] = ap items_in records
    ∙ items_in-push old.records.items item k.written can_be.items_follow in
    let view : file_view new ≡ with_item (file_view old) item =
    ap (λ (f : Frame). file_by f (items_in new.records.items)) frame ∙ ap (λ (l : List Item). file_by old.frame l) items_are in (
      record {
        can_be = subst CanBeFile (sym view) can_be;
        written = ap encoded_items items_are ∙ encoded_items-push items item
            ∙ ap (λ (bytes : List ℕ). bytes ++ encoded_item item) k.written ∙ sym records;
        table = λ l. table l ∙ ap (λ (is : List Item). in_force is l) (sym items_are);
      },
      view,
    )
