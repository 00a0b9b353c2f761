-- The header of a file that comes in pieces, and the start of a reading after it.
use Rattle.std.proofs.Common.{◌≡◌, ℕ, ◌+◌, ◌-◌, ◌<◌, ◌≤◌, ◌^◌, List, [], ◌++◌, length, take, drop, refl, sym, ap, subst, ◌∙◌, arith, inl, inr}
use Rattle.std.proofs.lemmas.Bool.{cases_lt}
use Rattle.std.proofs.lemmas.List.{length-append, length-take, length-take-le, take-append-drop, take-take, take_all, drop_all}
use Rattle.std.proofs.Math.Seq.{drop-append-add}
use Rattle.fit_base.specs.Checksum.{crc}
use Rattle.fit_grammar.specs.declared.file.fault.FaultKind.{FaultKind}
use Rattle.fit_grammar.specs.declared.file.fault.FaultKind.TheVariants.{Truncated}
use Rattle.fit_grammar.specs.declared.file.fault.FileFault.{FileFault}
use Rattle.fit_grammar.specs.declared.file.header.Header.{Header}
use Rattle.fit_grammar.specs.declared.file.state.Reading.{Reading}
use Rattle.fit_grammar.specs.Format.Records.{in_force}
use Rattle.fit_grammar.specs.Format.File.{IsHeader}
use Rattle.fit_grammar.specs.Format.Refusal.{IsCutShort, Refusal}
use Rattle.fit_grammar.specs.Calls.Pieces.{IsShownBy}
use Rattle.fit_grammar.specs.Private.Decoding.{Reached, IsShort, IsRefusedBy, BeginsWith}
use Rattle.fit_grammar.specs.Private.Feeding.{StandsBefore, ReadsOn}
use Rattle.fit_grammar.proofs.OneItem.DefinitionRead.{begun_empty}
use Rattle.fit_grammar.proofs.Decoding.Longer.{cut_of, shown_of, shown_longer}
use Rattle.fit_grammar.proofs.Decoding.Reached.{reached_first}
use Rattle.fit_grammar.proofs.Pieces.Noted.{none_noted}
use Rattle.fit_grammar.proofs.Pieces.Items.{item_waits}
use Rattle.fit_grammar.proofs.Pieces.Ended.{end_cut}

-- ---- the bytes of the header so far

-- the bytes end within it
pub header_waits : (bytes taken : List ℕ) (fault : FileFault) → taken ≡ take 14 bytes → IsRefusedBy taken fault
    → fault.kind ≡ Truncated → IsShort taken → (taken ≡ bytes) × IsShort bytes × IsCutShort bytes Truncated (length bytes)
header_waits bytes taken fault e r cut short =
    let all : taken ≡ bytes = e ∙ take_all 14 bytes (omega (arith, short.0, ap length e, length-take 14 bytes)) in
    let ends = cut_of taken fault.place (subst (λ (k : FaultKind). Refusal taken k fault.place) cut r.1) in
    let here : IsCutShort taken Truncated (length taken) =
    subst (λ (n : ℕ). IsCutShort taken Truncated n) ends.at_end ends in
    (all, subst IsShort all short, subst (λ (l : List ℕ). IsCutShort l Truncated (length l)) all here)

-- or show a fault of it
pub header_shown : (bytes taken : List ℕ) (fault : FileFault) → taken ≡ take 14 bytes → IsRefusedBy taken fault
    → (fault.kind ≡ Truncated → ⊥) → IsShownBy bytes fault
header_shown bytes taken fault e r whole =
    subst (λ (l : List ℕ). IsShownBy l fault) (ap (λ (l : List ℕ). l ++ drop 14 bytes) e ∙ take-append-drop 14 bytes)
    (shown_longer taken (drop 14 bytes) fault (shown_of taken fault (inl r) whole))

-- ---- a header that is whole, with some bytes from before this piece

-- it has 14 bytes at most
size_within : (taken : List ℕ) (h : Header) → BeginsWith taken h → h.frame.header_size ≤ 14
size_within taken h p = elim p.is_header.is_frame.size [ inl e ↦ omega arith | inr e ↦ omega arith ]

-- the rest of it is in this piece
pub header_long : (fed bytes taken : List ℕ) (h : Header) → taken ≡ take 14 (fed ++ bytes) → BeginsWith taken h
    → h.frame.header_size - length fed ≤ length bytes
header_long fed bytes taken h e p =
    omega (arith, p.within, ap length e, length-take 14 (fed ++ bytes), length-append fed bytes)

pub header_parts : (fed bytes taken rest : List ℕ) (h : Header) (had : ℕ) → length fed ≡ had → taken ≡ take 14 (fed ++ bytes)
    → BeginsWith taken h → had ≤ h.frame.header_size → rest ≡ drop (h.frame.header_size - had) bytes
    → take h.frame.header_size taken ++ rest ≡ fed ++ bytes
header_parts fed bytes taken rest h had long e p le is =
    let size = h.frame.header_size in
    let all = fed ++ bytes in
    let front : take size taken ≡ take size all = ap (λ (l : List ℕ). take size l) e
    ∙ take-take size 14 all (size_within taken h p) in
    let goes : length fed + (size - had) ≡ size = omega arith in
    let back : drop size all ≡ rest = ap (λ (n : ℕ). drop n all) (sym goes)
    ∙ drop-append-add fed bytes (size - had) ∙ sym is in
    ap (λ (l : List ℕ). l ++ rest) front ∙ ap (λ (l : List ℕ). take size all ++ l) (sym back) ∙ take-append-drop size all

-- it is read from its own bytes alone
pub header_alone : (taken : List ℕ) (h : Header) → BeginsWith taken h → BeginsWith (take h.frame.header_size taken) h
header_alone taken h p =
    let size = h.frame.header_size in
    record {
      within = omega (arith, length-take-le size taken p.within);
      is_header = subst (λ (l : List ℕ). IsHeader l h.frame h.data_size) (sym (take-take size size taken (omega arith))) p.is_header;
    }

-- ---- after the header

pub begun_reads : (b : List ℕ) (h : Header) (r : Reading) → BeginsWith b h → length b ≡ h.frame.header_size
    → h.data_size < 2 ^ 32 → r.file.frame ≡ h.frame → r.file.items ≡ [] → r.places ≡ [] → r.at ≡ length b
    → r.end ≡ length b + h.data_size → r.checksum ≡ crc b → r.carry.items ≡ [] → r.closing.items ≡ [] → ReadsOn b r
begun_reads b h r p whole fits frame items none at end checksum carry closing =
    let f = in_force r.file.items in
    let first = reached_first b h p fits in
    let reached : Reached b r.file r.at r.end = record {
      front = first.front;
      rest = first.rest;
      is_front = first.is_front;
      frame_is = first.frame_is ∙ sym frame;
      items_are = first.items_are ∙ sym items;
      joined = first.joined;
      at_is = at ∙ whole ∙ first.at_is;
      end_is = omega (arith, end, whole, first.end_is);
      fits = first.fits;
    } in
    let stands : StandsBefore b r [] = record {
      reached = reached;
      window_is = drop_all r.at b (omega arith);
      checked = checksum ∙ ap crc (sym (take_all r.end b (omega arith)));
      noted = rw (take_all r.at b (omega arith), frame, items, none) (none_noted b h p whole);
    } in
    record {
      stands = subst (StandsBefore b r) (sym (ap (λ (l : List ℕ). l ++ r.closing.items) carry ∙ closing)) stands;
      within = λ _. (closing, rw carry (begun_empty f));
      after = λ _. carry;
      short = omega (arith, ap length carry);
      cut = λ _. elim (cases_lt r.at r.end) [
        | inl lt ↦ (item_waits b [] r stands lt (inr (1, refl, omega arith, begun_empty f))).cut
        | inr le ↦ end_cut b r.file r.at r.end reached le (omega arith)
      ];
      whole = λ two. absurd (omega (arith, ap length closing));
    }
