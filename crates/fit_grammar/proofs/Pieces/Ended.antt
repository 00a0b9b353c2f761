-- The end of a piece after the whole items: within an unfinished item, or after all the records.
use Rattle.std.proofs.Common.{◌≡◌, ℕ, ◌+◌, ◌<◌, ◌≤◌, List, [], ◌++◌, length, take, drop, refl, sym, ap, subst, ◌∙◌, arith}
use Rattle.std.proofs.lemmas.List.{append-nil, length-take-le}
use Rattle.fit_base.specs.Number.{low_first}
use Rattle.fit_base.specs.Checksum.{crc}
use Rattle.fit_grammar.specs.declared.file.fault.FaultKind.{FaultKind}
use Rattle.fit_grammar.specs.declared.file.fault.FaultKind.TheVariants.{Truncated, HeaderSize, Magic, Protocol, HeaderCrc, UndefinedLocal, SplitMessage, FileCrc, TrailingBytes, Memory}
use Rattle.fit_grammar.specs.declared.file.fault.FileFault.{FileFault}
use Rattle.fit_grammar.specs.declared.file.state.Reading.{Reading}
use Rattle.fit_grammar.specs.declared.file.frame.Frame.{Frame}
use Rattle.fit_grammar.specs.Format.Item.{Item}
use Rattle.fit_grammar.specs.Format.Records.{in_force}
use Rattle.fit_grammar.specs.Format.File.{FileValue, FileOf}
use Rattle.fit_grammar.specs.Format.Refusal.{front_bytes, front_end, IsCutShort}
use Rattle.fit_grammar.specs.Calls.Pieces.{IsShownBy}
use Rattle.fit_grammar.specs.Calls.Step.{ItemBegun}
use Rattle.fit_grammar.specs.Private.Decoding.{Reached}
use Rattle.fit_grammar.specs.Private.Feeding.{StandsBefore, Waits, ReadsOn, TakesItems, ClosingShows, fault_in}
use Rattle.fit_grammar.proofs.Decoding.Closed.{closing_right}
use Rattle.fit_grammar.proofs.Decoding.Longer.{cut_of, shown_of}
use Rattle.fit_grammar.proofs.Decoding.Reached.{rest_there}
use Rattle.fit_grammar.proofs.Decoding.Refused.{file_shows_nothing}
use Rattle.fit_grammar.proofs.Decoding.Shown.{front_taken, reached_end_refused}
use Rattle.fit_grammar.proofs.Pieces.Items.{refusal_of}
use Rattle.fit_grammar.proofs.Pieces.Standing.{StaysAt, stands_same, stands_length, stands_within}

abbrev fault_at : FaultKind → ℕ → FileFault
fault_at kind place = record { kind = kind; place = place }

-- an unfinished item waits in the carry
pub carried_reads : (b : List ℕ) (r : Reading) → StandsBefore b r r.carry.items → r.at < r.end → Waits b r r.carry.items
    → r.closing.items ≡ [] → length r.carry.items < 130051 → ReadsOn b r
carried_reads b r stands lt waits none short = record {
  stands = subst (StandsBefore b r) (sym (ap (λ (l : List ℕ). r.carry.items ++ l) none ∙ append-nil r.carry.items)) stands;
  within = λ _. (none, waits.begun);
  after = λ le. absurd (omega arith);
  short = short;
  cut = λ _. waits.cut;
  whole = λ two. absurd (omega (arith, ap length none));
}

-- and what comes after the whole items of a piece goes there
pub waits_reads : (b rest : List ℕ) (old new : Reading) → TakesItems b old rest → old.at < old.end → StaysAt old new
    → old.carry.items ≡ [] → new.carry.items ≡ old.carry.items ++ rest → new.closing ≡ old.closing → length rest < 130051 → ReadsOn b new
waits_reads b rest old new t lt stays none carry closing short =
    let waits = (t.waits lt).1 in
    let empty : new.closing.items ≡ [] = rw closing (t.waits lt).0 in
    let kept : new.carry.items ≡ rest = carry ∙ ap (λ (l : List ℕ). l ++ rest) none in
    let window : old.closing.items ++ rest ≡ new.carry.items = ap (λ (l : List ℕ). l ++ rest) (t.waits lt).0 ∙ sym kept in
    let begun : ItemBegun (in_force new.file.items) new.carry.items = rw (stays.file, kept) waits.begun in
    carried_reads b new
    (stands_same b new.carry.items old new (subst (StandsBefore b old) window t.stands) stays)
    (omega (arith, stays.at, stays.end)) (record { begun = begun; cut = waits.cut }) empty (omega (arith, ap length kept, short))

-- ---- after all the records

-- the bytes end within the closing checksum
pub end_cut : (b : List ℕ) (v : FileValue) (at end : ℕ) → Reached b v at end → end ≤ at → length b < end + 2
    → IsCutShort b Truncated (length b)
end_cut b v at end r le short =
    cut_of b (length b) (refusal_of b (length b)
    (reached_end_refused b v at end (fault_at Truncated (length b)) r le (refl, short)))

abbrev file_by : Frame → List Item → FileValue
file_by frame items = record { frame = frame; items = items }

-- or after it, if it is right
pub closed_file : (b closing : List ℕ) (v : FileValue) (at end : ℕ) → Reached b v at end → end ≤ at → drop at b ≡ closing
    → length closing ≡ 2 → low_first closing ≡ crc (take end b) → FileOf b v
closed_file b closing v at end r le is two right =
    let f = r.front in
    let full : length f.records ≡ f.size = omega (arith, r.at_is, r.end_is, r.is_front.inside) in
    let there : end ≡ front_end f = omega (arith, r.end_is, full) in
    let rest : r.rest ≡ closing = sym (ap (λ (n : ℕ). drop n b) r.at_is ∙ rest_there b f r.rest r.joined) ∙ is in
    let before : take end b ≡ front_bytes f = ap (λ (n : ℕ). take n b) there ∙ front_taken b f r.rest r.joined in
    let same : file_by f.frame f.items ≡ v = ap (λ (x : Frame). file_by x f.items) r.frame_is
    ∙ ap (λ (is : List Item). file_by v.frame is) r.items_are in
    subst (FileOf b) same (closing_right b f closing r.is_front
    (r.joined ∙ ap (λ (l : List ℕ). front_bytes f ++ l) rest) full
    (record { whole = two; right = right ∙ ap crc before }))

pub closed_reads : (b rest : List ℕ) (old new : Reading) → TakesItems b old rest → old.end ≤ old.at → StaysAt old new
    → new.carry ≡ old.carry → old.carry.items ≡ [] → new.closing.items ≡ old.closing.items ++ rest
    → (2 ≤ length new.closing.items → low_first new.closing.items ≡ old.checksum) → length new.closing.items ≤ 2
    → ReadsOn b new
closed_reads b rest old new t le stays carry none closing right most =
    let empty : new.carry.items ≡ [] = rw carry none in
    let window : old.closing.items ++ rest ≡ new.carry.items ++ new.closing.items =
    sym closing ∙ ap (λ (l : List ℕ). l ++ new.closing.items) (sym empty) in
    let stands : StandsBefore b new (new.carry.items ++ new.closing.items) =
    stands_same b (new.carry.items ++ new.closing.items) old new (subst (StandsBefore b old) window t.stands) stays in
    let after : new.end ≤ new.at = omega (arith, stays.at, stays.end) in
    let within = stands_within b (new.carry.items ++ new.closing.items) new stands in
    let long : length b ≡ new.at + length new.closing.items = stands_length b (new.carry.items ++ new.closing.items) new stands
    ∙ ap (λ (l : List ℕ). new.at + length (l ++ new.closing.items)) empty in
    let there : drop new.at b ≡ new.closing.items = stands.window_is ∙ ap (λ (l : List ℕ). l ++ new.closing.items) empty in
    record {
      stands = stands;
      within = λ more. absurd (omega arith);
      after = λ _. empty;
      short = omega (arith, ap length empty);
      cut = λ short. end_cut b new.file new.at new.end stands.reached after (omega arith);
      whole = λ two.
          let file = closed_file b new.closing.items new.file new.at new.end stands.reached after there (omega arith)
          (right two ∙ sym stays.checksum ∙ stands.checked) in
          (file, file_shows_nothing b new.file file);
    }

-- the bytes after the records are those of the window
closing_place : (b rest : List ℕ) (r : Reading) → TakesItems b r rest → r.end ≤ r.at
    → (r.end ≡ r.at) × (length b ≡ r.at + length (r.closing.items ++ rest)) × (drop r.end b ≡ r.closing.items ++ rest)
closing_place b rest r t le =
    let same : r.end ≡ r.at = omega (arith, stands_within b (r.closing.items ++ rest) r t.stands) in
    (same, stands_length b (r.closing.items ++ rest) r t.stands, rw same t.stands.window_is)

-- the checksum is wrong, or a byte follows it
pub closing_shown : (b rest : List ℕ) (old new : Reading) (kind : FaultKind) → TakesItems b old rest → old.end ≤ old.at
    → StaysAt old new → ClosingShows (old.closing.items ++ rest) old.checksum kind → IsShownBy b (fault_in new kind)
closing_shown b rest old new FileCrc t le stays sh =
    let end = closing_place b rest old t le in
    let fault = fault_at FileCrc old.at in
    rw stays.at (shown_of b fault (reached_end_refused b old.file old.at old.end fault t.stands.reached le (
      sym end.0,
      omega (arith, end.1, sh.0, end.0),
      λ e. sh.1 (ap (λ (l : List ℕ). low_first (take 2 l)) (sym end.2) ∙ e ∙ sym t.stands.checked),
    )) (λ k. cc))
closing_shown b rest old new TrailingBytes t le stays sh =
    let end = closing_place b rest old t le in
    let fault = fault_at TrailingBytes (old.end + 2) in
    let tail = old.closing.items ++ rest in
    rw stays.end (shown_of b fault (reached_end_refused b old.file old.at old.end fault t.stands.reached le (
      refl,
      omega (arith, end.1, sh.0, end.0),
      rw end.2 (record { whole = length-take-le 2 tail (omega (arith, sh.0)); right = sh.1 ∙ t.stands.checked }),
    )) (λ k. cc))
closing_shown b rest old new Truncated t le stays sh = absurd sh
closing_shown b rest old new HeaderSize t le stays sh = absurd sh
closing_shown b rest old new Magic t le stays sh = absurd sh
closing_shown b rest old new Protocol t le stays sh = absurd sh
closing_shown b rest old new HeaderCrc t le stays sh = absurd sh
closing_shown b rest old new (UndefinedLocal local) t le stays sh = absurd sh
closing_shown b rest old new SplitMessage t le stays sh = absurd sh
closing_shown b rest old new Memory t le stays sh = absurd sh
