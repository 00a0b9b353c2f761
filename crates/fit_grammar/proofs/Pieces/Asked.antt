-- Lack of memory comes at an item that was not whole before: for `Decoder::feed`.
use Rattle.std.proofs.Common.{◌≡◌, ℕ, ◌≤◌, List, [], ◌∷◌, ◌++◌, length, take, drop, Option, sym, ap, subst, ◌∙◌, arith, append_assoc, inl, inr}
use Rattle.std.proofs.lemmas.Bool.{cases_lt}
use Rattle.std.proofs.lemmas.List.{length-append, append-nil}
use Rattle.std.proofs.Math.Seq.{take-append_seam}
use Rattle.fit_grammar.specs.declared.file.state.Reading.{Reading}
use Rattle.fit_grammar.specs.declared.definition.Definition.{Definition}
use Rattle.fit_grammar.specs.Format.Item.{Item, Spells}
use Rattle.fit_grammar.specs.Format.Records.{in_force, IsDefinedBy}
use Rattle.fit_grammar.specs.Format.Refusal.{Front, IsFront}
use Rattle.fit_grammar.specs.Calls.Step.{ItemBegun}
use Rattle.fit_grammar.specs.Calls.Pieces.{NoItemEndsPast}
use Rattle.fit_grammar.specs.Private.Feeding.{ReadsOn}
use Rattle.fit_grammar.proofs.OneItem.Spelling.{spelling_not_empty}
use Rattle.fit_grammar.proofs.OneItem.Steps.{item_not_begun}
use Rattle.fit_grammar.proofs.Decoding.Alignment.{Aligned, longer, shorter}
use Rattle.fit_grammar.proofs.Decoding.Fronts.{same_fronts}
use Rattle.fit_grammar.proofs.Decoding.Reached.{rest_there}

-- an item at the front of bytes that are only a prefix of one
not_whole : (f : ℕ → Option Definition) (window : List ℕ) (item : Item) (own others : List ℕ) → window ≡ own ++ others → Spells item own
    → IsDefinedBy f item → ItemBegun f window → ⊥
not_whole f window item own others e spelled defined begun =
    item_not_begun f window item (length own) (record {
      within = omega (arith, ap length e, length-append own others);
      spelled = subst (λ (l : List ℕ). Spells item l) (sym (ap (λ (l : List ℕ). take (length own) l) e ∙ take-append_seam own others)) spelled;
      defined = defined;
    }) begun

-- no front of the bytes ends later than the front that was read
no_later : (fed : List ℕ) (r : Reading) (g : Front) (rest : List ℕ) → (reads : ReadsOn fed r) → IsFront g
    → reads.stands.reached.front.size ≡ g.size
    → Aligned [] reads.stands.reached.front.records reads.stands.reached.front.items reads.stands.reached.rest g.records g.items rest
    → length g.records ≤ length reads.stands.reached.front.records
no_later fed r g rest reads q size (longer [] k) =
    omega (arith, ap length k.bytes_are, length-append reads.stands.reached.front.records k.bytes, ap length k.goes_on)
no_later fed r g rest reads q size (longer (item ∷ more) k) =
    let reached = reads.stands.reached in
    let first = k.goes_on.1 in
    elim (cases_lt r.at r.end) [
      | inl lt ↦
          let begun = reads.within lt in
          let window : reached.rest ≡ r.carry.items =
          sym (rest_there fed reached.front reached.rest reached.joined) ∙ ap (λ (n : ℕ). drop n fed) (sym reached.at_is)
          ∙ reads.stands.window_is ∙ ap (λ (l : List ℕ). r.carry.items ++ l) begun.0 ∙ append-nil r.carry.items in
          let parts : r.carry.items ≡ first.own ++ (k.goes_on.0 ++ rest) =
          sym window ∙ k.rest_is ∙ ap (λ (l : List ℕ). l ++ rest) first.joined ∙ append_assoc first.own k.goes_on.0 rest in
          absurd (not_whole (in_force r.file.items) r.carry.items item first.own (k.goes_on.0 ++ rest) parts first.spelled
          (subst (λ (is : List Item). IsDefinedBy (in_force is) item) reached.items_are first.defined) begun.1)
      | inr le ↦ absurd (omega (
        arith,
        q.inside,
        size,
        ap length k.bytes_are,
        length-append reached.front.records k.bytes,
        ap length first.joined,
        length-append first.own k.goes_on.0,
        spelling_not_empty item first.own first.spelled,
        reached.at_is,
        reached.end_is,
      ))
    ]
no_later fed r g rest reads q size (shorter item others k) =
    omega (arith, ap length k.bytes_are, length-append g.records k.bytes)

-- so no whole item ends past the place of the reading
pub no_item_past : (fed : List ℕ) (r : Reading) (place : ℕ) → ReadsOn fed r → r.at ≤ place → NoItemEndsPast fed place
no_item_past fed r place reads le = λ g rest q e.
    let reached = reads.stands.reached in
    let same = same_fronts reached.front g reached.rest rest reached.is_front q (sym reached.joined ∙ e) in
    omega (arith, no_later fed r g rest reads q same.size same.records, ap length same.header, reached.at_is, le)
