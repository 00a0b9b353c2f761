-- The exits as the loop meets them: from what an item shows, after the front that was reached, to the fault of the bytes. For
-- the readings of `Pieces`.
use Rattle.std.proofs.Common.{◌≡◌, ◌≢◌, ℕ, ◌+◌, ◌-◌, ◌*◌, ◌<◌, ◌≤◌, List, [], ◌∷◌, ◌++◌, length, take, drop, Option, Some, None, Ok, Err, Bool, true, false, refl, sym, ap, subst, ◌∙◌, arith, inl, inr}
use Rattle.std.specs.Prelude.{slice_index, IsSomeAnd}
use Rattle.std.proofs.lemmas.Bool.{cases_lt, lt-ltb, le-ltb}
use Rattle.std.proofs.lemmas.List.{length-append, length-drop, length-take-le, take-append-drop, get_or_append_left, append-nil}
use Rattle.std.proofs.Math.Seq.{take-append_seam}
use Rattle.fit_base.specs.Number.{low_first}
use Rattle.fit_base.specs.Checksum.{crc}
use Rattle.fit_grammar.specs.declared.definition.Definition.{Definition}
use Rattle.fit_grammar.specs.declared.file.fault.FaultKind.{FaultKind}
use Rattle.fit_grammar.specs.declared.file.fault.FaultKind.TheVariants.{Truncated, HeaderSize, Magic, Protocol, HeaderCrc, UndefinedLocal, SplitMessage, FileCrc, TrailingBytes, Memory}
use Rattle.fit_grammar.specs.declared.file.fault.FileFault.{FileFault}
use Rattle.fit_grammar.specs.declared.item.ItemFault.TheVariants as items
use Rattle.fit_grammar.specs.Format.Item.{Spells, Head, DefinitionHead, DataHead, head_of, content_size, part_size}
use Rattle.fit_grammar.specs.Format.Records.{in_force}
use Rattle.fit_grammar.specs.Calls.Step.{after_fields, definition_length_of, data_length_of, length_by, ItemBegun}
use Rattle.fit_grammar.specs.Format.File.{FileValue, IsClosing}
use Rattle.fit_grammar.specs.Format.Refusal.{Front, front_bytes, front_end, IsFront, SplitsAtFirst, Refusal, IsFaultOf}
use Rattle.fit_grammar.specs.Private.Decoding.{WindowShows, IsItemFault, EndShows, fault_of, Reached}
use Rattle.fit_grammar.proofs.Decoding.Blocked.{Blocked}
use Rattle.fit_grammar.proofs.Decoding.Refused.{refused}
use Rattle.fit_grammar.proofs.Decoding.Accepted.{AcceptsHead, SplitsAtCounts, stands_one, count_refused, developer_count_refused, ends_within, ends_before}
use Rattle.fit_grammar.proofs.Decoding.Closed.{closing_cut, closing_wrong, closing_followed}
use Rattle.fit_grammar.proofs.OneItem.Steps.{item_not_begun}
use Rattle.fit_grammar.proofs.Decoding.WantOfMemory.{front_before_refusal, item_begins}
use Rattle.fit_grammar.proofs.Decoding.Quiet.{same_byte}
use Rattle.fit_grammar.proofs.OneItem.DefinitionRead.{few_fields, all_fields, after_least}
use Rattle.fit_grammar.proofs.OneItem.Least.{ok_is}
use Rattle.fit_grammar.proofs.Decoding.Reached.{rest_there}

-- ---- by the first byte

undefined_by : (b : List ℕ) (f : Front) (byte : ℕ) (after : List ℕ) (h : Head) (local : ℕ) → head_of byte ≡ h
    → IsFront f → b ≡ front_bytes f ++ byte ∷ after → length f.records < f.size
    → length_by (in_force f.items) h (byte ∷ after) ≡ Err (items.UndefinedLocal local) → Refusal b (UndefinedLocal local) (front_end f)
undefined_by b f byte after (DefinitionHead l n) local e p j lt is = absurd cc
undefined_by b f byte after (DataHead l o) local e p j lt is = undefined_under (in_force f.items l) refl is
  where
    undefined_under : (d : Option Definition) → in_force f.items l ≡ d
        → data_length_of l d ≡ Err (items.UndefinedLocal local) → Refusal b (UndefinedLocal local) (front_end f)
    undefined_under None there is =
        let same : l ≡ local = cc in
        refused (UndefinedLocal local) b f (byte ∷ []) after (stands_one b f (byte ∷ after) p j)
        (lt, byte, o, refl, rw (← same) e, rw (← same) there)
    undefined_under (Some d) there is = absurd cc

at_least_six : (announced : Bool) (window : List ℕ) → 6 ≤ definition_length_of announced window
at_least_six announced window =
    elim (cases_lt (length window) 6) [
      | inl lt ↦ omega (arith, few_fields announced window lt)
      | inr le ↦ omega (arith, all_fields announced window le, after_least announced (6 + 3 * slice_index window 5) window)
    ]

split_first : (b : List ℕ) (f : Front) (byte : ℕ) (after : List ℕ) → IsFront f → b ≡ front_bytes f ++ byte ∷ after
    → length f.records < f.size → SplitsAtFirst f (byte ∷ []) → Refusal b SplitMessage (front_end f)
split_first b f byte after p j lt h = refused SplitMessage b f (byte ∷ []) after (stands_one b f (byte ∷ after) p j) (lt, inl h)

-- a definition that extends past the end of the data only by its developer fields
split_after : (b : List ℕ) (f : Front) (byte : ℕ) (after : List ℕ) (local : ℕ) (announced : Bool)
    → head_of byte ≡ DefinitionHead local announced → IsFront f → b ≡ front_bytes f ++ byte ∷ after → length f.records < f.size
    → AcceptsHead f (head_of byte)
    → length f.records + (6 + 3 * slice_index (byte ∷ after) 5 + part_size announced 0) ≤ f.size
    → f.size < length f.records + after_fields announced (6 + 3 * slice_index (byte ∷ after) 5) (byte ∷ after)
    → Refusal b SplitMessage (front_end f)
split_after b f byte after local false e p j lt a fits past = absurd (omega (arith, fits, past))
split_after b f byte after local true e p j lt a fits past =
    let window = byte ∷ after in
    let end = 6 + 3 * slice_index window 5 in
    elim (cases_lt end (length window)) [
      | inl there ↦
          let all : after_fields true end window ≡ end + part_size true (slice_index window end) = rw (lt-ltb _ _ there) refl in
          developer_count_refused b f byte after p j lt a local e there fits (omega (arith, past, all))
      | inr short ↦
          let one : after_fields true end window ≡ end + part_size true 0 = rw (le-ltb _ _ short) refl in
          absurd (omega (arith, fits, past, one))
    ]

split_definition : (b : List ℕ) (f : Front) (byte : ℕ) (after : List ℕ) (local : ℕ) (announced : Bool)
    → head_of byte ≡ DefinitionHead local announced → IsFront f → b ≡ front_bytes f ++ byte ∷ after → length f.records < f.size
    → f.size < length f.records + definition_length_of announced (byte ∷ after) → Refusal b SplitMessage (front_end f)
split_definition b f byte after local n e p j lt past =
    let window = byte ∷ after in
    let counted = 6 + 3 * slice_index window 5 + part_size n 0 in
    elim (cases_lt f.size (length f.records + 6)) [
      | inl less ↦ split_first b f byte after p j lt (byte, refl, inl (local, n, e, less))
      | inr more ↦ elim (cases_lt (length window) 6) [
        | inl few ↦ absurd (omega (arith, few_fields n window few))
        | inr six ↦
            let accepts = subst (AcceptsHead f) (sym e) more in
            elim (cases_lt f.size (length f.records + counted)) [
              | inl less ↦ count_refused b f byte after p j lt accepts local n e six less
              | inr fits ↦ split_after b f byte after local n e p j lt accepts fits (omega (arith, past, all_fields n window six))
            ]
      ]
    ]

split_by : (b : List ℕ) (f : Front) (byte : ℕ) (after : List ℕ) (h : Head) (least : ℕ) → head_of byte ≡ h → IsFront f
    → b ≡ front_bytes f ++ byte ∷ after → length f.records < f.size
    → length_by (in_force f.items) h (byte ∷ after) ≡ Ok least → f.size < length f.records + least → Refusal b SplitMessage (front_end f)
split_by b f byte after (DefinitionHead l n) least e p j lt is past =
    split_definition b f byte after l n e p j lt (omega (arith, past, ok_is (definition_length_of n (byte ∷ after)) least is))
split_by b f byte after (DataHead l o) least e p j lt is past = split_under (in_force f.items l) refl is
  where
    split_under : (d : Option Definition) → in_force f.items l ≡ d → data_length_of l d ≡ Ok least → Refusal b SplitMessage (front_end f)
    split_under None there is = absurd cc
    split_under (Some d) there is =
        split_first b f byte after p j lt (
          byte,
          refl,
          inr (
            l,
            o,
            e,
            subst (λ (x : Option Definition). IsSomeAnd x
                (λ d. f.size < length f.records + (1 + content_size d))) (sym there)
                (omega (arith, past, ok_is (1 + content_size d) least is)),
          ),
        )

-- the first byte of an item whose least length fits into the data
accepts_by : (f : Front) (byte : ℕ) (after : List ℕ) (h : Head) (least : ℕ)
    → length_by (in_force f.items) h (byte ∷ after) ≡ Ok least → length f.records + least ≤ f.size → AcceptsHead f h
accepts_by f byte after (DefinitionHead l n) least is le =
    omega (arith, at_least_six n (byte ∷ after), ok_is (definition_length_of n (byte ∷ after)) least is, le)
accepts_by f byte after (DataHead l o) least is le = accepts_under (in_force f.items l) is
  where
    accepts_under : (d : Option Definition) → data_length_of l d ≡ Ok least
        → IsSomeAnd d (λ d. length f.records + (1 + content_size d) ≤ f.size)
    accepts_under None is = absurd cc
    accepts_under (Some d) is = omega (arith, le, ok_is (1 + content_size d) least is)

-- if the least length of a definition fits into the data, so do the numbers of its fields
counts_within : (f : Front) (window tail more : List ℕ) (l : ℕ) (n : Bool) → head_of (slice_index window 0) ≡ DefinitionHead l n
    → length f.records + definition_length_of n window ≤ f.size → window ≡ tail ++ more → SplitsAtCounts f tail → ⊥
counts_within f window tail more l n e le j (inl (six, local, announced, head, past)) =
    let joined : window ++ [] ≡ tail ++ more = append-nil window ∙ j in
    let long : 6 ≤ length window = omega (arith, ap length j, length-append tail more, six) in
    let end = 6 + 3 * slice_index window 5 in
    let fifth = same_byte window [] tail more 5 joined (omega (arith, long)) (omega (arith, six)) in
    let first = same_byte window [] tail more 0 joined (omega (arith, long)) (omega (arith, six)) in
    let same : DefinitionHead l n ≡ DefinitionHead local announced = sym e ∙ ap head_of first ∙ head in
    let is : announced ≡ n = cc in
    let part : part_size announced 0 ≡ part_size n 0 = ap (λ (x : Bool). part_size x 0) is in
    omega (arith, past, part, fifth, all_fields n window long, after_least n end window, le)
counts_within f window tail more l n e le j (inr (count, local, head, past)) =
    let joined : window ++ [] ≡ tail ++ more = append-nil window ∙ j in
    let long : 6 ≤ length window = omega (arith, ap length j, length-append tail more, count) in
    let end = 6 + 3 * slice_index window 5 in
    let fifth = same_byte window [] tail more 5 joined (omega (arith, long)) (omega (arith, count)) in
    let first = same_byte window [] tail more 0 joined (omega (arith, long)) (omega (arith, count)) in
    let same : DefinitionHead l n ≡ DefinitionHead local true = sym e ∙ ap head_of first ∙ head in
    let is : n ≡ true = cc in
    let there : end < length window = omega (arith, ap length j, length-append tail more, count, fifth) in
    let all : after_fields true end window ≡ end + part_size true (slice_index window end) = rw (lt-ltb _ _ there) refl in
    let whole : definition_length_of n window ≡ after_fields true end window =
    all_fields n window long ∙ ap (λ (x : Bool). after_fields x end window) is in
    let last : slice_index window end ≡ slice_index tail (6 + 3 * slice_index tail 5) =
    same_byte window [] tail more end joined there (omega (arith, count, fifth))
    ∙ ap (λ (k : ℕ). slice_index tail (6 + 3 * k)) fifth in
    omega (arith, past, fifth, last, all, whole, le)

no_definition : (byte : ℕ) (after tail more : List ℕ) (l : ℕ) (o : Option ℕ) (local : ℕ) (announced : Bool) → head_of byte ≡ DataHead l o
    → byte ∷ after ≡ tail ++ more → 1 ≤ length tail → head_of (slice_index tail 0) ≡ DefinitionHead local announced → ⊥
no_definition byte after tail more l o local announced e j some head =
    let same : byte ≡ slice_index tail 0 = ap (λ (k : List ℕ). slice_index k 0) j ∙ get_or_append_left tail more 0 0 some in
    let bad : DataHead l o ≡ DefinitionHead local announced = sym e ∙ ap head_of same ∙ head in
    cc

count_by_head : (f : Front) (byte : ℕ) (after tail more : List ℕ) (h : Head) (least : ℕ) → head_of byte ≡ h
    → length_by (in_force f.items) h (byte ∷ after) ≡ Ok least → length f.records + least ≤ f.size
    → byte ∷ after ≡ tail ++ more → SplitsAtCounts f tail → ⊥
count_by_head f byte after tail more (DefinitionHead l n) least e is le j sh =
    counts_within f (byte ∷ after) tail more l n e (omega (arith, le, ok_is (definition_length_of n (byte ∷ after)) least is)) j sh
count_by_head f byte after tail more (DataHead l o) least e is le j (inl (six, local, announced, head, past)) =
    no_definition byte after tail more l o local announced e j (omega (arith, six)) head
count_by_head f byte after tail more (DataHead l o) least e is le j (inr (count, local, head, past)) =
    no_definition byte after tail more l o local true e j (omega (arith, count)) head

-- no item is whole if one has only begun
begun_blocked : (f : Front) (window : List ℕ) → ItemBegun (in_force f.items) window → Blocked f window
begun_blocked f window begun item own u j inside =
    let long : length own ≤ length window = omega (arith, ap length j, length-append own u) in
    let front : take (length own) window ≡ own = ap (λ (l : List ℕ). take (length own) l) j ∙ take-append_seam own u in
    item_not_begun (in_force f.items) window item (length own)
    (record { within = long; spelled = subst (λ (l : List ℕ). Spells item l) (sym front) inside.spelled; defined = inside.defined }) begun

-- ---- what the window shows

window_refused : (kind : FaultKind) (b : List ℕ) (f : Front) (window : List ℕ) (left : ℕ) → IsFront f
    → b ≡ front_bytes f ++ window → length f.records + left ≡ f.size → 1 ≤ left → WindowShows (in_force f.items) window left kind
    → IsFaultOf b (fault_of kind (front_end f) (length b))
window_refused (UndefinedLocal local) b f [] left p j size some sh = absurd cc
window_refused (UndefinedLocal local) b f (byte ∷ after) left p j size some sh =
    inl (λ k. cc, undefined_by b f byte after (head_of byte) local refl p j (omega arith) sh)
window_refused SplitMessage b f [] left p j size some sh = absurd (omega (arith, ok_is 1 sh.0 sh.1, sh.2))
window_refused SplitMessage b f (byte ∷ after) left p j size some sh =
    inl (λ k. cc, split_by b f byte after (head_of byte) sh.0 refl p j (omega arith) sh.1 (omega (arith, sh.2)))
window_refused Truncated b f [] left p j size some sh = inl (λ k. cc, ends_before b f p j (omega arith))
window_refused Truncated b f (byte ∷ after) left p j size some sh =
    let within : length f.records + sh.0 ≤ f.size = omega (arith, sh.2) in
    inl (
      λ k. cc,
      ends_within b f byte after p j (omega arith) (accepts_by f byte after (head_of byte) sh.0 sh.1 within)
          (begun_blocked f (byte ∷ after) sh.3)
          (λ tail more is. count_by_head f byte after tail more (head_of byte) sh.0 refl sh.1 within is),
    )
window_refused HeaderSize b f window left p j size some sh = absurd sh
window_refused Magic b f window left p j size some sh = absurd sh
window_refused Protocol b f window left p j size some sh = absurd sh
window_refused HeaderCrc b f window left p j size some sh = absurd sh
window_refused FileCrc b f window left p j size some sh = absurd sh
window_refused TrailingBytes b f window left p j size some sh = absurd sh
window_refused Memory b f window left p j size some sh = absurd sh

-- the fault at an item
pub reached_refused : (b : List ℕ) (v : FileValue) (at end : ℕ) (kind : FaultKind) (fault : FileFault)
    → Reached b v at end → at < end → IsItemFault (in_force v.items) (drop at b) (end - at) kind
    → fault ≡ fault_of kind at (length b) → IsFaultOf b fault
reached_refused b v at end kind fault r lt (inl memory) e =
    let f = r.front in
    let place : fault ≡ record { kind = Memory; place = front_end f } = e
    ∙ ap (λ (k : FaultKind). fault_of k at (length b)) memory.0 ∙ ap (λ (n : ℕ). fault_of Memory n (length b)) r.at_is in
    let more : length f.records < f.size = omega (arith, r.at_is, r.end_is) in
    let window : drop at b ≡ r.rest = ap (λ (k : ℕ). drop k b) r.at_is ∙ rest_there b f r.rest r.joined in
    let come : 1 ≤ length r.rest = omega (arith, memory.1, ap length window) in
    rw place (inr (refl, item_begins b f r.rest r.is_front r.joined more come, front_before_refusal b f r.rest r.is_front r.joined))
reached_refused b v at end kind fault r lt (inr sh) e =
    let f = r.front in
    let window : drop at b ≡ r.rest = ap (λ (k : ℕ). drop k b) r.at_is ∙ rest_there b f r.rest r.joined in
    let same : in_force v.items ≡ in_force f.items = ap in_force (sym r.items_are) in
    let shown : WindowShows (in_force f.items) r.rest (end - at) kind =
    subst (λ (g : ℕ → Option Definition). WindowShows g r.rest (end - at) kind) same
    (subst (λ (w : List ℕ). WindowShows (in_force v.items) w (end - at) kind) window sh) in
    rw (e, r.at_is) (window_refused kind b f r.rest (end - at) r.is_front r.joined
    (omega (arith, r.at_is, r.end_is, r.is_front.inside)) (omega arith) shown)

-- ---- after the records

whole_length : (b : List ℕ) (f : Front) (rest : List ℕ) → b ≡ front_bytes f ++ rest → length b ≡ front_end f + length rest
whole_length b f rest e = omega (arith, ap length e, length-append (front_bytes f) rest, length-append f.header f.records)

pub front_taken : (b : List ℕ) (f : Front) (rest : List ℕ) → b ≡ front_bytes f ++ rest → take (front_end f) b ≡ front_bytes f
front_taken b f rest e =
    ap (λ (k : ℕ). take k b) (sym (length-append f.header f.records))
    ∙ ap (λ (l : List ℕ). take (length (front_bytes f)) l) e ∙ take-append_seam (front_bytes f) rest

end_refused : (kind : FaultKind) (place : ℕ) (b : List ℕ) (f : Front) (rest : List ℕ) → IsFront f
    → b ≡ front_bytes f ++ rest → length f.records ≡ f.size → EndShows b (front_end f) kind place → (kind ≢ Memory) × Refusal b kind place
end_refused Truncated place b f rest p j full sh =
    let long = whole_length b f rest j in
    (λ k. cc, rw sh.0 (closing_cut b f rest p j full (omega (arith, sh.1, long))))
end_refused FileCrc place b f rest p j full sh =
    let long = whole_length b f rest j in
    let there = rest_there b f rest j in
    let front = front_taken b f rest j in
    let parts : rest ≡ take 2 rest ++ drop 2 rest = sym (take-append-drop 2 rest) in
    let wrong : low_first (take 2 rest) ≡ crc (front_bytes f) → ⊥ = λ e. sh.2
    (ap (λ (l : List ℕ). low_first (take 2 l)) there ∙ e ∙ ap crc (sym front)) in (
      λ k. cc,
      rw sh.0 (closing_wrong b f (take 2 rest) (drop 2 rest) p
          (j ∙ ap (λ (l : List ℕ). front_bytes f ++ l) parts) full (length-take-le 2 rest (omega (arith, sh.1, long))) wrong),
    )
end_refused TrailingBytes place b f rest p j full sh =
    let long = whole_length b f rest j in
    let there = rest_there b f rest j in
    let front = front_taken b f rest j in
    let closing : IsClosing (front_bytes f) (take 2 rest) =
    subst (λ (l : List ℕ). IsClosing (front_bytes f) (take 2 l)) there
    (subst (λ (l : List ℕ). IsClosing l (take 2 (drop (front_end f) b))) front sh.2) in
    (λ k. cc, rw sh.0 (followed (drop 2 rest) refl (omega (arith, sh.1, long, length-drop 2 rest)) closing))
  where
    followed : (after : List ℕ) → drop 2 rest ≡ after → 1 ≤ length (drop 2 rest)
        → IsClosing (front_bytes f) (take 2 rest) → Refusal b TrailingBytes (front_end f + 2)
    followed [] e some closing = absurd (omega (arith, ap length e))
    followed (byte ∷ after) e some closing =
        let parts : rest ≡ take 2 rest ++ byte ∷ after = sym (take-append-drop 2 rest) ∙ ap (λ (l : List ℕ). take 2 rest ++ l) e in
        closing_followed b f (take 2 rest) byte after p (j ∙ ap (λ (l : List ℕ). front_bytes f ++ l) parts) full closing
end_refused HeaderSize place b f rest p j full sh = absurd sh
end_refused Magic place b f rest p j full sh = absurd sh
end_refused Protocol place b f rest p j full sh = absurd sh
end_refused HeaderCrc place b f rest p j full sh = absurd sh
end_refused (UndefinedLocal local) place b f rest p j full sh = absurd sh
end_refused SplitMessage place b f rest p j full sh = absurd sh
end_refused Memory place b f rest p j full sh = absurd sh

-- the fault after the records
pub reached_end_refused : (b : List ℕ) (v : FileValue) (at end : ℕ) (fault : FileFault) → Reached b v at end
    → end ≤ at → EndShows b end fault.kind fault.place → IsFaultOf b fault
reached_end_refused b v at end fault r le sh =
    let f = r.front in
    let there : end ≡ front_end f = omega (arith, r.at_is, r.end_is, r.is_front.inside) in
    inl (end_refused fault.kind fault.place b f r.rest r.is_front r.joined
    (omega (arith, r.at_is, r.end_is, r.is_front.inside)) (rw there at sh))
