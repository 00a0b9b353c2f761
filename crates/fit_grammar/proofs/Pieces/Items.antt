-- Taking items of a piece: an item that is there, a fault that an item shows, and an unfinished item.
use Rattle.std.proofs.Common.{◌≡◌, ℕ, ◌+◌, ◌-◌, ◌<◌, List, [], ◌++◌, length, drop, Option, refl, sym, ap, subst, ◌∙◌, arith, inl, inr}
use Rattle.std.proofs.lemmas.List.{length-append, take-append-le, drop-drop}
use Rattle.fit_grammar.specs.declared.file.fault.FaultKind.{FaultKind}
use Rattle.fit_grammar.specs.declared.file.fault.FaultKind.TheVariants.{Truncated, HeaderSize, Magic, Protocol, HeaderCrc, UndefinedLocal, SplitMessage, FileCrc, TrailingBytes, Memory}
use Rattle.fit_grammar.specs.declared.file.fault.FileFault.{FileFault}
use Rattle.fit_grammar.specs.declared.file.state.Reading.{Reading}
use Rattle.fit_grammar.specs.declared.definition.Definition.{Definition}
use Rattle.fit_grammar.specs.Format.Item.{Spells}
use Rattle.fit_grammar.specs.Format.Records.{in_force}
use Rattle.fit_grammar.specs.Format.File.{FileValue}
use Rattle.fit_grammar.specs.Format.Refusal.{Refusal, IsFaultOf}
use Rattle.fit_grammar.specs.Calls.Pieces.{IsShownBy}
use Rattle.fit_grammar.specs.Calls.Step.{ItemBegun}
use Rattle.fit_grammar.specs.Private.Decoding.{Reached, IsItemFault, fault_of}
use Rattle.fit_grammar.specs.Private.Feeding.{StandsBefore, Waits, TakesItems, TakesNext, fault_in}
use Rattle.fit_grammar.proofs.Decoding.Longer.{cut_of, shown_of}
use Rattle.fit_grammar.proofs.Decoding.Reached.{reached_more}
use Rattle.fit_grammar.proofs.Decoding.Shown.{reached_refused}
use Rattle.fit_grammar.proofs.Pieces.Noted.{noted_next}
use Rattle.fit_grammar.proofs.Pieces.Standing.{StaysAt, stands_same}

-- an item at the front of a window is at the front of a longer one
pub takes_longer : (v w : FileValue) (places after window x : List ℕ) (at left used : ℕ) → TakesNext v w places after window at left used
    → TakesNext v w places after (window ++ x) at left used
takes_longer v w places after window x at left used t =
    let front = t.taken.at_front in
    let within = front.within in
    record {
      taken = record {
        item = t.taken.item;
        at_front = record {
          within = omega (arith, length-append window x);
          spelled = subst (λ (l : List ℕ). Spells t.taken.item l) (sym (take-append-le used window x within)) front.spelled;
          defined = front.defined;
        };
        inside = t.taken.inside;
        added = t.taken.added;
      };
      noted_is = t.noted_is;
    }

-- after an item that was taken comes the rest of the window
pub stands_item : (b window : List ℕ) (old new : Reading) (used : ℕ) → StandsBefore b old window → old.at < old.end
    → TakesNext old.file new.file old.places new.places window old.at (old.end - old.at) used → new.at ≡ old.at + used → new.end ≡ old.end
    → new.checksum ≡ old.checksum → StandsBefore b new (drop used window)
stands_item b window old new used s lt t at end checksum =
    let here : TakesNext old.file new.file old.places new.places (drop old.at b) old.at (old.end - old.at) used =
    subst (λ (l : List ℕ). TakesNext old.file new.file old.places new.places l old.at (old.end - old.at) used) (sym s.window_is) t in
    record {
      reached = rw (at, end) (reached_more b old.file new.file old.at old.end used s.reached here.taken lt);
      window_is = ap (λ (n : ℕ). drop n b) at ∙ sym (drop-drop used old.at b) ∙ ap (λ (l : List ℕ). drop used l) s.window_is;
      checked = rw (checksum, end) s.checked;
      noted = rw at (noted_next b old.file new.file old.places new.places old.at old.end used s.reached here s.noted);
    }

-- ---- faults

abbrev fault_at : FaultKind → ℕ → FileFault
fault_at kind place = record { kind = kind; place = place }

-- unless the input ends too soon, the fault that an item shows is at the item
pub record IsAtItem (kind : FaultKind) (at len : ℕ) (r : Reading) : Type 0 where
  pub whole : fault_of kind at len ≡ fault_at kind at
  pub here : fault_in r kind ≡ fault_at kind at

is_at_item : (v : FileValue) (window : List ℕ) (left : ℕ) (kind : FaultKind) (at len : ℕ) (r : Reading)
    → IsItemFault (in_force v.items) window left kind → (kind ≡ Truncated → ⊥) → r.at ≡ at → IsAtItem kind at len r
is_at_item v window left Truncated at len r sh whole e = absurd (whole refl)
is_at_item v window left TrailingBytes at len r (inl (memory, some)) whole e = absurd cc
is_at_item v window left TrailingBytes at len r (inr sh) whole e = absurd sh
is_at_item v window left HeaderSize at len r sh whole e = record { whole = refl; here = ap (fault_at HeaderSize) e }
is_at_item v window left Magic at len r sh whole e = record { whole = refl; here = ap (fault_at Magic) e }
is_at_item v window left Protocol at len r sh whole e = record { whole = refl; here = ap (fault_at Protocol) e }
is_at_item v window left HeaderCrc at len r sh whole e = record { whole = refl; here = ap (fault_at HeaderCrc) e }
is_at_item v window left (UndefinedLocal l) at len r sh whole e =
    record { whole = refl; here = ap (fault_at (UndefinedLocal l)) e }
is_at_item v window left SplitMessage at len r sh whole e = record { whole = refl; here = ap (fault_at SplitMessage) e }
is_at_item v window left FileCrc at len r sh whole e = record { whole = refl; here = ap (fault_at FileCrc) e }
is_at_item v window left Memory at len r sh whole e = record { whole = refl; here = ap (fault_at Memory) e }

-- the fault that an item shows
pub item_shown : (b window : List ℕ) (v : FileValue) (at end : ℕ) (new : Reading) (kind : FaultKind) → Reached b v at end
    → drop at b ≡ window → at < end → IsItemFault (in_force v.items) window (end - at) kind → (kind ≡ Truncated → ⊥)
    → new.at ≡ at → IsShownBy b (fault_in new kind)
item_shown b window v at end new kind r is lt sh whole e =
    let place = is_at_item v window (end - at) kind at (length b) new sh whole e in
    let there : IsItemFault (in_force v.items) (drop at b) (end - at) kind =
    subst (λ (l : List ℕ). IsItemFault (in_force v.items) l (end - at) kind) (sym is) sh in
    subst (IsShownBy b) (sym place.here) (shown_of b (fault_at kind at)
    (reached_refused b v at end kind (fault_at kind at) r lt there (sym place.whole)) whole)

-- ---- an unfinished item

pub begun_of : (f : ℕ → Option Definition) (window : List ℕ) (left : ℕ) → IsItemFault f window left Truncated → ItemBegun f window
begun_of f window left (inl (memory, some)) = absurd cc
begun_of f window left (inr sh) = sh.3

pub refusal_of : (b : List ℕ) (place : ℕ) → IsFaultOf b (fault_at Truncated place) → Refusal b Truncated place
refusal_of b place (inl r) = r.1
refusal_of b place (inr memory) = absurd (truncated_memory memory.0)
  where
    truncated_memory : Truncated ≡ Memory → ⊥
    truncated_memory e = cc

-- the bytes end within it
pub item_waits : (b window : List ℕ) (r : Reading) → StandsBefore b r window → r.at < r.end
    → IsItemFault (in_force r.file.items) window (r.end - r.at) Truncated → Waits b r window
item_waits b window r s lt sh =
    let there : IsItemFault (in_force r.file.items) (drop r.at b) (r.end - r.at) Truncated =
    subst (λ (l : List ℕ). IsItemFault (in_force r.file.items) l (r.end - r.at) Truncated) (sym s.window_is) sh in
    record {
      begun = begun_of (in_force r.file.items) window (r.end - r.at) sh;
      cut = cut_of b (length b) (refusal_of b (length b)
          (reached_refused b r.file r.at r.end Truncated (fault_at Truncated (length b)) s.reached lt there refl));
    }

-- ---- the loop over the items of a piece

-- after one more item
pub next_item : (b bytes : List ℕ) (old new : Reading) (used own : ℕ)
    → StandsBefore b old (old.closing.items ++ drop used bytes) → old.at < old.end → old.closing.items ≡ []
    → TakesNext old.file new.file old.places new.places (drop used bytes) old.at (old.end - old.at) own → new.at ≡ old.at + own
    → new.end ≡ old.end
    → new.checksum ≡ old.checksum → new.closing ≡ old.closing
    → StandsBefore b new (new.closing.items ++ drop (used + own) bytes)
next_item b bytes old new used own s lt none t at end checksum closing =
    let empty : new.closing.items ≡ [] = rw closing none in
    let here = subst (λ (l : List ℕ). StandsBefore b old (l ++ drop used bytes)) none s in
    let window : drop own (drop used bytes) ≡ new.closing.items ++ drop (used + own) bytes =
    drop-drop own used bytes ∙ ap (λ (l : List ℕ). l ++ drop (used + own) bytes) (sym empty) in
    subst (StandsBefore b new) window (stands_item b (drop used bytes) old new own here lt t at end checksum)

-- and before an unfinished one
pub cut_items : (b rest : List ℕ) (old new : Reading) (kind : FaultKind)
    → StandsBefore b old (old.closing.items ++ rest) → old.at < old.end → old.closing.items ≡ []
    → IsItemFault (in_force old.file.items) rest (old.end - old.at) kind → kind ≡ Truncated → StaysAt old new
    → new.closing ≡ old.closing → TakesItems b new rest
cut_items b rest old new kind s lt none sh cut stays closing =
    let empty : new.closing.items ≡ [] = rw closing none in
    let here : StandsBefore b new (old.closing.items ++ rest) = stands_same b (old.closing.items ++ rest) old new s stays in
    let alone = subst (λ (l : List ℕ). StandsBefore b new (l ++ rest)) none here in
    let begun = subst (IsItemFault (in_force old.file.items) rest (old.end - old.at)) cut sh in
    let still : IsItemFault (in_force new.file.items) rest (new.end - new.at) Truncated =
    rw (stays.file, stays.at, stays.end) begun in
    record {
      stands = subst (λ (l : List ℕ). StandsBefore b new (l ++ rest)) (none ∙ sym empty) here;
      waits = λ more. (empty, item_waits b rest new alone more still);
    }
