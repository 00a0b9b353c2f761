-- The refusals of a header, exit by exit, as `read_header` and `read_header_front` meet them.
use Rattle.std.proofs.Common.{◌≡◌, ◌≢◌, ℕ, ◌+◌, ◌-◌, ◌/◌, ◌<◌, ◌≤◌, List, [], ◌∷◌, length, take, drop, sym, ap, subst, ◌∙◌, arith, ◌⊎◌, inl, inr}
use Rattle.std.specs.Prelude.{slice_index}
use Rattle.std.proofs.lemmas.List.{length-take-le, length-drop, get_or-take, drop-take, take-take}
use Rattle.byteorder.specs.Endian.{little_number}
use Rattle.fit_base.specs.Number.{low_first}
use Rattle.fit_base.proofs.Numbers.{low_first-little}
use Rattle.fit_grammar.specs.declared.file.fault.FaultKind.{FaultKind}
use Rattle.fit_grammar.specs.declared.file.fault.FaultKind.TheVariants.{Truncated, HeaderSize, Memory}
use Rattle.fit_grammar.specs.declared.file.fault.FileFault.{FileFault}
use Rattle.fit_grammar.specs.declared.file.frame.Frame.{Frame}
use Rattle.fit_grammar.specs.Format.File.{ChecksHeader, IsHeader}
use Rattle.fit_grammar.specs.Format.Refusal.{HeaderShows, Refusal}
use Rattle.fit_grammar.specs.Calls.BeginningHeader.{BeginsWithHeader}
use Rattle.fit_grammar.specs.Private.Decoding.{IsRefusedBy}
use Rattle.fit_grammar.proofs.Decoding.HeaderRefused.{Passes, header_refused, header_cut, empty_cut, size_refused}

abbrev fault_at : FaultKind → ℕ → FileFault
fault_at kind place = record { kind = kind; place = place }

-- a fault of this kind and place
pub refused_by : (b : List ℕ) (kind : FaultKind) (place : ℕ) (f : FileFault) → f ≡ fault_at kind place → kind ≢ Memory
    → Refusal b kind place → IsRefusedBy b f
refused_by b kind place f e other r = rw e (other, r)

pub empty_refused : (b : List ℕ) (f : FileFault) → f ≡ fault_at Truncated (length b) → length b ≡ 0 → IsRefusedBy b f
empty_refused b f e none = refused_by b Truncated (length b) f e (λ bad. cc) (empty_cut b none)

-- byte 0 is not a header size
pub first_refused : (b : List ℕ) (f : FileFault) → f ≡ fault_at HeaderSize 0 → 1 ≤ length b
    → ((slice_index b 0 ≡ 12) ⊎ (slice_index b 0 ≡ 14) → ⊥) → IsRefusedBy b f
first_refused [] f e some bad = absurd (omega arith)
first_refused (byte ∷ rest) f e some bad =
    refused_by (byte ∷ rest) HeaderSize 0 f e (λ k. cc) (size_refused byte rest (λ h. bad (inl h)) (λ h. bad (inr h)))

-- the bytes end within the header
pub cut_refused : (b : List ℕ) (f : FileFault) → f ≡ fault_at Truncated (length b) → Passes b (length b + 1) → IsRefusedBy b f
cut_refused b f e p = refused_by b Truncated (length b) f e (λ k. cc) (header_cut b p)

pub check_refused : (b : List ℕ) (f : FileFault) (kind : FaultKind) (place count : ℕ) → f ≡ fault_at kind place
    → kind ≢ Memory → Passes b count → count ≤ length b → HeaderShows kind place (take count b) → IsRefusedBy b f
check_refused b f kind place count e other p le h = refused_by b kind place f e other (header_refused kind place count b p le h)

-- the bytes of the header are those of the file at the same places
pub header_byte : (n : ℕ) (b : List ℕ) (i : ℕ) → i < n → slice_index (take n b) i ≡ slice_index b i
header_byte n b i lt = get_or-take n b i 0 lt

pub header_range : (n : ℕ) (b : List ℕ) (i len : ℕ) → i + len ≤ n → take len (drop i (take n b)) ≡ take len (drop i b)
header_range n b i len le =
    let rest : n ≡ i + (n - i) = omega arith in
    ap (λ (k : ℕ). take len (drop i (take k b))) rest ∙ ap (λ (l : List ℕ). take len l) (drop-take i (n - i) b)
    ∙ take-take len (n - i) (drop i b) (omega arith)

-- two and four bytes, read low byte first
pub two_read : (b : List ℕ) (i n : ℕ) → i + 2 ≤ length b → n ≡ little_number 2 (take 2 (drop i b)) → low_first (take 2 (drop i b)) ≡ n
two_read b i n le e =
    let two : length (take 2 (drop i b)) ≡ 2 = length-take-le 2 (drop i b) (omega (arith, length-drop i b)) in
    sym (e ∙ ap (λ (k : ℕ). little_number k (take 2 (drop i b))) (sym two) ∙ low_first-little (take 2 (drop i b)))

pub four_read : (b : List ℕ) (i n : ℕ) → i + 4 ≤ length b → n ≡ little_number 4 (take 4 (drop i b)) → low_first (take 4 (drop i b)) ≡ n
four_read b i n le e =
    let four : length (take 4 (drop i b)) ≡ 4 = length-take-le 4 (drop i b) (omega (arith, length-drop i b)) in
    sym (e ∙ ap (λ (k : ℕ). little_number k (take 4 (drop i b))) (sym four) ∙ low_first-little (take 4 (drop i b)))

-- ---- a header that is read, whatever its checksum is

pub begins_first : (b : List ℕ) (fr : Frame) (s : ℕ) → BeginsWithHeader b fr s → (slice_index b 0 ≡ 12) ⊎ (slice_index b 0 ≡ 14)
begins_first b fr s h = elim h.is_frame.size [ inl e ↦ inl (h.header_size ∙ e) | inr e ↦ inr (h.header_size ∙ e) ]

pub begins_major : (b : List ℕ) (fr : Frame) (s : ℕ) → BeginsWithHeader b fr s
    → (slice_index b 1 / 16 ≡ 1) ⊎ (slice_index b 1 / 16 ≡ 2)
begins_major b fr s h =
    let same = ap (λ (n : ℕ). n / 16) h.protocol in
    elim h.is_frame.major [ inl e ↦ inl (same ∙ e) | inr e ↦ inr (same ∙ e) ]

pub begins_long : (b : List ℕ) (fr : Frame) (s : ℕ) → BeginsWithHeader b fr s → 12 ≤ length b
begins_long b fr s h =
    let within = h.within in
    elim h.is_frame.size [ inl e ↦ omega arith | inr e ↦ omega arith ]

-- the checks before that of the checksum pass
pub begins_passes : (b : List ℕ) (fr : Frame) (s : ℕ) → BeginsWithHeader b fr s → Passes b fr.header_size
begins_passes b fr s h = record {
  first = begins_first b fr s h;
  major = λ more. begins_major b fr s h;
  marked = λ more. h.marked;
  within = omega (arith, h.header_size);
}

-- if its checksum is not given, or right, it is the header of a file
pub begins_good : (b : List ℕ) (fr : Frame) (s : ℕ) → BeginsWithHeader b fr s → (fr.header_size ≡ 14 → ChecksHeader (take 14 b))
    → IsHeader (take fr.header_size b) fr s
begins_good b fr s h checks =
    let n = fr.header_size in
    let least : 12 ≤ n = elim h.is_frame.size [ inl e ↦ omega arith | inr e ↦ omega arith ] in
    record {
      is_frame = h.is_frame;
      whole = length-take-le n b h.within;
      header_size = header_byte n b 0 (omega arith) ∙ h.header_size;
      protocol = header_byte n b 1 (omega arith) ∙ h.protocol;
      profile = ap low_first (header_range n b 2 2 (omega arith)) ∙ h.profile;
      data_size = ap low_first (header_range n b 4 4 (omega arith)) ∙ h.data_size;
      marked = header_range n b 8 4 (omega arith) ∙ h.marked;
      checked = λ e. subst (λ (k : ℕ). ChecksHeader (take k b)) (sym e) (checks e);
    }
