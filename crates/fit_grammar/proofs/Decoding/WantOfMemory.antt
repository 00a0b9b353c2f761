-- Lack of memory comes at an item that begins at or before the place of the refusal: for `Shown`.
use Rattle.std.proofs.Common.{◌≡◌, ℕ, ◌<◌, ◌≤◌, List, ◌++◌, length, take, ap, arith, inl, inr, refl}
use Rattle.std.proofs.lemmas.List.{length-append}
use Rattle.fit_grammar.specs.declared.file.fault.FaultKind.{FaultKind}
use Rattle.fit_grammar.specs.declared.file.fault.FaultKind.TheVariants.{Truncated, HeaderSize, Magic, Protocol, HeaderCrc, UndefinedLocal, SplitMessage, FileCrc, TrailingBytes, Memory}
use Rattle.fit_grammar.specs.Format.Refusal.{Front, front_bytes, front_end, IsFront, place_after, Shows, Refusal, ItemBeginsAt}
use Rattle.fit_grammar.proofs.Decoding.Fronts.{later}
use Rattle.fit_grammar.proofs.Decoding.Blocked.{follows}

front_le_place : (kind : FaultKind) (f : Front) → front_end f ≤ place_after kind f
front_le_place TrailingBytes f = omega arith
front_le_place HeaderSize f = omega arith
front_le_place Protocol f = omega arith
front_le_place Magic f = omega arith
front_le_place HeaderCrc f = omega arith
front_le_place Truncated f = omega arith
front_le_place (UndefinedLocal l) f = omega arith
front_le_place SplitMessage f = omega arith
front_le_place FileCrc f = omega arith
front_le_place Memory f = omega arith

shown_after : (b : List ℕ) (f : Front) (rest : List ℕ) (n place : ℕ) (kind : FaultKind) → IsFront f
    → b ≡ front_bytes f ++ rest → Shows kind place (take n b) → front_end f ≤ place
shown_after b f rest n place kind p e s =
    let l = later kind place n b f rest p e (follows kind place n b f rest p e s) in
    let le = front_le_place kind l.1.front in
    omega (arith, l.1.there, ap length l.1.header_is, ap length l.1.records_are, length-append f.records l.1.bytes)

-- the item after a front begins at or before the place of the refusal
pub front_before_refusal : (b : List ℕ) (f : Front) (rest : List ℕ) → IsFront f → b ≡ front_bytes f ++ rest
    → (kind : FaultKind) (place : ℕ) → Refusal b kind place → front_end f ≤ place
front_before_refusal b f rest p e kind place (inl r) = shown_after b f rest r.count place kind p e r.shown
front_before_refusal b f rest p e kind place (inr r) =
    omega (arith, r.at_end, ap length e, length-append (front_bytes f) rest, length-append f.header f.records)

pub item_begins : (b : List ℕ) (f : Front) (rest : List ℕ) → IsFront f → b ≡ front_bytes f ++ rest
    → length f.records < f.size → 1 ≤ length rest → ItemBeginsAt b (front_end f)
item_begins b f rest p e lt come = record { front = f; rest = rest; is_front = p; more = lt; come = come; joined = e; there = refl }
