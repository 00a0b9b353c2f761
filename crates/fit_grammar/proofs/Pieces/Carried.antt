-- The item that the end of a piece cut: with bytes of the next piece it is whole, or shows a fault, or is still cut.
use Rattle.std.proofs.Common.{◌≡◌, ℕ, ◌+◌, ◌-◌, ◌*◌, ◌<◌, ◌≤◌, Bool, true, false, min, List, [], ◌∷◌, ◌++◌, length, take, drop, Option, Some, None, refl, sym, ap, subst, ◌∙◌, append_assoc, arith, inl, inr}
use Rattle.std.specs.Prelude.{slice_index, IfOk}
use Rattle.std.proofs.lemmas.Bool.{cases_lt}
use Rattle.std.proofs.lemmas.List.{length-append, length-take, length-take-le, take-append-drop, take-take, take_all, get_or_append_left}
use Rattle.std.proofs.Math.Seq.{drop-append-add, drop-append_seam}
use Rattle.fit_grammar.specs.declared.definition.Definition.{Definition}
use Rattle.fit_grammar.specs.declared.file.fault.FaultKind.{FaultKind}
use Rattle.fit_grammar.specs.declared.file.fault.FaultKind.TheVariants.{Truncated, Memory}
use Rattle.fit_grammar.specs.declared.file.state.Reading.{Reading}
use Rattle.fit_grammar.specs.Format.Item.{Item, Defines, Data, Spells, part_size}
use Rattle.fit_grammar.specs.Format.Records.{in_force, IsDefinedBy}
use Rattle.fit_grammar.specs.Format.File.{FileValue}
use Rattle.fit_grammar.specs.Calls.Pieces.{IsShownBy}
use Rattle.fit_grammar.specs.Calls.Step.{ItemAtFront, ItemBegun, least_length_of}
use Rattle.fit_grammar.specs.Private.Decoding.{Reached, IsItemFault}
use Rattle.fit_grammar.specs.Private.Feeding.{StandsBefore, GoesOnFrom, CarriesOn, TakesBegun, fault_in}
use Rattle.fit_grammar.proofs.OneItem.Spelling.{definition_length, definition_count, developer_count, data_length}
use Rattle.fit_grammar.proofs.OneItem.Steps.{item_not_begun}
use Rattle.fit_grammar.proofs.OneItem.Least.{least_of_data}
use Rattle.fit_grammar.proofs.Decoding.Longer.{shown_longer, reached_within}
use Rattle.fit_grammar.proofs.Decoding.Shown.{front_taken}
use Rattle.fit_grammar.proofs.Pieces.Standing.{StaysAt, stands_same}
use Rattle.fit_grammar.proofs.Pieces.Items.{takes_longer, stands_item, item_shown, item_waits, begun_of}

-- an item that is whole now and was not before has at least as many bytes as had come
pub after_begun : (f : ℕ → Option Definition) (window : List ℕ) (item : Item) (had used : ℕ) → had ≤ length window
    → ItemAtFront f window item used → ItemBegun f (take had window) → had ≤ used
after_begun f window item had used le there begun =
    elim (cases_lt used had) [
      | inl lt ↦
          absurd (item_not_begun f (take had window) item used (record {
            within = omega (arith, length-take-le had window le);
            spelled = subst (λ (l : List ℕ). Spells item l) (sym (take-take used had window (omega arith))) there.spelled;
            defined = there.defined;
          }) begun)
      | inr more ↦ more
    ]

-- ---- if it is still cut, all the bytes were added to it

part_most : (announced : Bool) (count : ℕ) → (announced ≡ true → count < 256) → part_size announced count ≤ 766
part_most false count few = omega arith
part_most true count few = omega (arith, few refl)

-- an item that begins with these bytes has no more than so many
longest_by : (f : ℕ → Option Definition) (item : Item) (first : ℕ) (carry x rest : List ℕ) (most : ℕ) → 1 ≤ length rest
    → Spells item (((first ∷ carry) ++ x) ++ rest) → IsDefinedBy f item
    → IfOk (least_length_of f (first ∷ carry)) (λ least. least ≤ most) → 1537 ≤ most
    → ((i : ℕ) → slice_index ((first ∷ carry) ++ x) i < 256) → length ((first ∷ carry) ++ x) < most
longest_by f (Defines d) first carry x rest most some p defined least long bytes =
    let window = (first ∷ carry) ++ x in
    let n = definition_length d (window ++ rest) p in
    elim (cases_lt (length window) 1537) [
      | inl less ↦ omega arith
      | inr more ↦
          let count : slice_index window 5 ≡ length d.fields.items =
          sym (get_or_append_left window rest 0 5 (omega arith)) ∙ definition_count d (window ++ rest) p in
          let end = 6 + 3 * length d.fields.items in
          let within : end < length window = omega (arith, more, count, bytes 5) in
          let part = part_most p.announced (length d.developer.items) (λ is. omega (
            arith,
            bytes end,
            get_or_append_left window rest 0 end within,
            developer_count d (window ++ rest) p is,
          )) in
          omega (arith, n, count, bytes 5, part, length-append window rest)
    ]
longest_by f (Data local offset content) first carry x rest most some p defined least long bytes =
    let window = (first ∷ carry) ++ x in
    let n = data_length local offset content (window ++ rest) p in
    let joined : window ++ rest ≡ (first ∷ carry) ++ (x ++ rest) = append_assoc (first ∷ carry) x rest in
    let all = least_of_data f first carry (x ++ rest) local offset content
    (subst (λ (l : List ℕ). Spells (Data local offset content) l) joined p) defined in
    let whole : 1 + length content ≤ most = rw all at least in
    omega (arith, n, length-append window rest)

longest : (f : ℕ → Option Definition) (carry x : List ℕ) (most : ℕ) → 1 ≤ length carry → ItemBegun f (carry ++ x)
    → IfOk (least_length_of f carry) (λ least. least ≤ most) → 1537 ≤ most
    → ((i : ℕ) → slice_index (carry ++ x) i < 256) → length (carry ++ x) < most
longest f [] x most some begun least long bytes = absurd (omega arith)
longest f (first ∷ carry) x most some begun least long bytes =
    longest_by f begun.item first carry x begun.rest most begun.more begun.spelled begun.defined least long bytes

-- what was added to the carried bytes, out of a piece
pub record Adds (carry piece added : List ℕ) (most own : ℕ) : Type 0 where
  pub own_is : own ≡ min (most - length carry) (length piece)
  pub added_is : added ≡ carry ++ take own piece
  pub bytes : (i : ℕ) → slice_index added i < 256

all_carried : (f : ℕ → Option Definition) (carry piece added : List ℕ) (most own : ℕ) → Adds carry piece added most own
    → 1 ≤ length carry → ItemBegun f added → IfOk (least_length_of f carry) (λ least. least ≤ most) → 1537 ≤ most
    → added ≡ carry ++ piece
all_carried f carry piece added most own a some begun least long =
    let x = take own piece in
    let lt : length (carry ++ x) < most = longest f carry x most some
    (subst (ItemBegun f) a.added_is begun) least long
    (subst (λ (l : List ℕ). (i : ℕ) → slice_index l i < 256) a.added_is a.bytes) in
    a.added_is ∙ ap (λ (l : List ℕ). carry ++ l)
    (take_all own piece (omega (arith, a.own_is, length-append carry x, length-take own piece)))

-- ---- the steps of the carried item

-- one reading continues another, with more bytes in the carry
pub record Carries (old mid : Reading) (piece : List ℕ) (most own : ℕ) : Type 0 where
  pub stays : StaysAt old mid
  pub adds : Adds old.carry.items piece mid.carry.items most own
  pub least : IfOk (least_length_of (in_force old.file.items) old.carry.items) (λ least. least ≤ most)
  pub longest : 1537 ≤ most
  pub some : 1 ≤ length old.carry.items
  pub more : old.at < old.end

-- the window begins with what is carried now
carried_window : (old mid : Reading) (piece : List ℕ) (most own : ℕ) → Carries old mid piece most own
    → old.carry.items ++ piece ≡ mid.carry.items ++ drop own piece
carried_window old mid piece most own k =
    ap (λ (l : List ℕ). old.carry.items ++ l) (sym (take-append-drop own piece))
    ∙ sym (append_assoc old.carry.items (take own piece) (drop own piece))
    ∙ ap (λ (l : List ℕ). l ++ drop own piece) (sym k.adds.added_is)

pub carries_on : (b piece : List ℕ) (old mid new : Reading) (most own : ℕ) (used : Option ℕ)
    → StandsBefore b old (old.carry.items ++ piece) → Carries old mid piece most own → GoesOnFrom mid new
    → TakesBegun mid new (length old.carry.items) used → CarriesOn b new piece used
carries_on b piece old mid new most own None s k on (cut, file, places, at, carry) =
    let f = in_force mid.file.items in
    let begun = begun_of f mid.carry.items (mid.end - mid.at) cut in
    let all : mid.carry.items ≡ old.carry.items ++ piece = all_carried f old.carry.items piece mid.carry.items most own
    k.adds k.some begun (rw (sym k.stays.file) at k.least) k.longest in
    let stays : StaysAt old new = record {
      file = file ∙ k.stays.file;
      places = places ∙ k.stays.places;
      at = at ∙ k.stays.at;
      end = on.end ∙ k.stays.end;
      checksum = on.checksum ∙ k.stays.checksum;
    } in
    let window : new.carry.items ≡ old.carry.items ++ piece = rw carry all in
    let here : StandsBefore b new new.carry.items =
    stands_same b new.carry.items old new (subst (StandsBefore b old) (sym window) s) stays in
    let more : new.at < new.end = omega (arith, stays.at, stays.end, k.more) in
    let still : IsItemFault (in_force new.file.items) new.carry.items (new.end - new.at) Truncated =
    rw (file, carry, at, on.end) cut in
    (here, more, item_waits b new.carry.items new here more still)
carries_on b piece old mid new most own (Some used) s k on (taken, at, none) =
    let had = length old.carry.items in
    let joined = carried_window old mid piece most own k in
    let here = rw (k.stays.file, k.stays.places, k.stays.at, k.stays.end) at taken in
    let longer = takes_longer old.file new.file old.places new.places mid.carry.items (drop own piece) old.at (old.end - old.at) (had + used) here in
    let stands = stands_item b (old.carry.items ++ piece) old new (had + used) s k.more
    (rw joined longer) (at ∙ ap (λ (n : ℕ). n + (had + used)) k.stays.at) (on.end ∙ k.stays.end)
    (on.checksum ∙ k.stays.checksum) in (
      omega (
        arith,
        taken.taken.at_front.within,
        ap length k.adds.added_is,
        length-append old.carry.items (take own piece),
        length-take own piece,
      ),
      subst (StandsBefore b new) (drop-append-add old.carry.items piece used) stands,
      none,
    )

-- what is carried is a prefix of the window, and its fault is one of the whole window
reached_shorter : (b window x : List ℕ) (v : FileValue) (at end : ℕ) → Reached b v at end → drop at b ≡ window ++ x
    → Reached (take at b ++ window) v at end
reached_shorter b window x v at end r is = record {
  front = r.front;
  rest = window;
  is_front = r.is_front;
  frame_is = r.frame_is;
  items_are = r.items_are;
  joined = ap (λ (l : List ℕ). l ++ window) (ap (λ (n : ℕ). take n b) r.at_is ∙ front_taken b r.front r.rest r.joined);
  at_is = r.at_is;
  end_is = r.end_is;
  fits = r.fits;
}

pub carried_fault : (b piece : List ℕ) (old mid new : Reading) (most own : ℕ) (kind : FaultKind)
    → StandsBefore b old (old.carry.items ++ piece) → Carries old mid piece most own
    → IsItemFault (in_force mid.file.items) mid.carry.items (mid.end - mid.at) kind → (kind ≡ Truncated → ⊥)
    → new.at ≡ mid.at → IsShownBy b (fault_in new kind)
carried_fault b piece old mid new most own kind s k sh whole at =
    let carry = mid.carry.items in
    let rest = drop own piece in
    let front = take old.at b ++ carry in
    let window : drop old.at b ≡ carry ++ rest = s.window_is ∙ carried_window old mid piece most own k in
    let r = reached_shorter b carry rest old.file old.at old.end s.reached window in
    let long : length (take old.at b) ≡ old.at =
    length-take-le old.at b ((reached_within b old.file old.at old.end s.reached).0) in
    let there : drop old.at front ≡ carry = ap (λ (n : ℕ). drop n front) (sym long) ∙ drop-append_seam (take old.at b) carry in
    let all : front ++ rest ≡ b = append_assoc (take old.at b) carry rest
    ∙ ap (λ (l : List ℕ). take old.at b ++ l) (sym window) ∙ take-append-drop old.at b in
    subst (λ (l : List ℕ). IsShownBy l (fault_in new kind)) all (shown_longer front rest (fault_in new kind)
    (item_shown front carry old.file old.at old.end new kind r there k.more
    (rw (k.stays.file, k.stays.at, k.stays.end) at sh) whole (at ∙ k.stays.at)))

-- lack of memory at the item
pub memory_shown : (b window : List ℕ) (old new : Reading) (kind : FaultKind) → StandsBefore b old window → old.at < old.end
    → 1 ≤ length window → kind ≡ Memory → new.at ≡ old.at → IsShownBy b (fault_in new kind)
memory_shown b window old new kind s lt some memory at =
    subst (λ (k : FaultKind). IsShownBy b (fault_in new k)) (sym memory)
    (item_shown b window old.file old.at old.end new Memory s.reached s.window_is lt (inl (refl, some)) (λ e. cc) at)
