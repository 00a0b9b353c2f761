-- The files that are chained in bytes, one after another.
use Rattle.std.proofs.Common.{◌≡◌, ℕ, ◌+◌, List, [], ◌∷◌, ◌++◌, length, take, drop, ◌≤◌, refl, sym, ap, subst, ◌∙◌, append_assoc, append-nil, arith}
use Rattle.std.specs.Prelude.{flat_map, map, slice_index, slice_range}
use Rattle.std.proofs.Math.Seq.{drop-append_seam, take-append_seam}
use Rattle.std.proofs.lemmas.List.{length-append}
use Rattle.fit_base.specs.Number.{low_first}
use Rattle.fit_grammar.specs.declared.file.frame.Frame.{Frame}
use Rattle.fit_grammar.specs.Format.File.{FileValue, FileOf, IsHeader}
use Rattle.fit_grammar.specs.Calls.BeginningHeader.{BeginsWithHeader}
use Rattle.fit_grammar.proofs.Decoding.Headers.{header_at_least, header_first}
use Rattle.fit_grammar.proofs.Decoding.HeaderRead.{header_byte, header_range}
use Rattle.fit_mending.specs.declared.chained.Part.{Part}
use Rattle.fit_mending.specs.Chained.{EndsFirst, AreChained, AreNumbered}

-- a header at the front of bytes
pub begins : (h z : List ℕ) (frame : Frame) (size : ℕ) → IsHeader h frame size → BeginsWithHeader (h ++ z) frame size
begins h z frame size is =
    let n = length h in
    let long = header_at_least h frame size is in
    let own = take-append_seam h z in
    record {
      is_frame = is.is_frame;
      within = omega (arith, is.whole, length-append h z);
      header_size = header_first h frame size z is ∙ is.whole;
      protocol = sym (header_byte n (h ++ z) 1 (omega (arith, long))) ∙ ap (λ (l : List ℕ). slice_index l 1) own ∙ is.protocol;
      profile = ap low_first (sym (header_range n (h ++ z) 2 2 (omega (arith, long))) ∙ ap (λ (l : List ℕ). slice_range l 2 4) own)
          ∙ is.profile;
      data_size = ap low_first (sym (header_range n (h ++ z) 4 4 (omega (arith, long))) ∙ ap (λ (l : List ℕ). slice_range l 4 8) own)
          ∙ is.data_size;
      marked = sym (header_range n (h ++ z) 8 4 (omega (arith, long))) ∙ ap (λ (l : List ℕ). slice_range l 8 12) own ∙ is.marked;
    }

-- a whole file at the front of bytes begins with its header, and has this length
pub file_begins : (bytes file rest : List ℕ) (v : FileValue) → bytes ≡ file ++ rest → (f : FileOf file v)
    → BeginsWithHeader bytes v.frame (length f.records)
file_begins bytes file rest v e f =
    subst (λ (b : List ℕ). BeginsWithHeader b v.frame (length f.records))
    (sym (e ∙ ap (λ (l : List ℕ). l ++ rest) f.joined ∙ append_assoc (f.header ++ f.records) f.closing rest
    ∙ append_assoc f.header f.records (f.closing ++ rest)))
    (begins f.header (f.records ++ (f.closing ++ rest)) v.frame (length f.records) f.is_header)

-- its records stand after the header
pub records_at : (bytes : List ℕ) (v : FileValue) (f : FileOf bytes v) (frame : Frame) (size : ℕ) → BeginsWithHeader bytes frame size
    → take size (drop frame.header_size bytes) ≡ f.records
records_at bytes v f frame size begins =
    let own = file_begins bytes bytes [] v (sym (append-nil bytes)) f in
    let front : frame.header_size ≡ length f.header = sym begins.header_size ∙ own.header_size ∙ sym f.is_header.whole in
    let long : size ≡ length f.records = sym begins.data_size ∙ own.data_size in
    let joined : bytes ≡ f.header ++ (f.records ++ f.closing) = f.joined ∙ append_assoc f.header f.records f.closing in
    let after : drop frame.header_size bytes ≡ f.records ++ f.closing =
    ap (λ (n : ℕ). drop n bytes) front ∙ ap (λ (l : List ℕ). drop (length f.header) l) joined
    ∙ drop-append_seam f.header (f.records ++ f.closing) in
    ap (λ (n : ℕ). take n (drop frame.header_size bytes)) long ∙ ap (λ (l : List ℕ). take (length f.records) l) after
    ∙ take-append_seam f.records f.closing

pub file_length : (file : List ℕ) (v : FileValue) (f : FileOf file v) → length file ≡ v.frame.header_size + length f.records + 2
file_length file v f =
    omega (
      arith,
      ap length f.joined,
      length-append (f.header ++ f.records) f.closing,
      length-append f.header f.records,
      f.is_header.whole,
      f.is_closing.whole,
    )

-- the bytes are these files, and then the rest, each ended where the first file of the bytes from its beginning does
abbrev pub EndsWith : List ℕ → List (List ℕ) → List ℕ → Type 0
EndsWith bytes [] rest = bytes ≡ rest
EndsWith bytes (file ∷ files) rest =
    (after : List ℕ) × (bytes ≡ file ++ after) × (1 ≤ length file) × EndsFirst bytes (length file)
    × EndsWith after files rest

pub ends_more : (bytes : List ℕ) (files : List (List ℕ)) (rest file others : List ℕ) → EndsWith bytes files rest
    → rest ≡ file ++ others → 1 ≤ length file → EndsFirst rest (length file) → EndsWith bytes (files ++ file ∷ []) others
ends_more bytes [] rest file others e joined some ends = (
  others,
  e ∙ joined,
  some,
  subst (λ (b : List ℕ). EndsFirst b (length file)) (sym e) ends,
  refl,
)
ends_more bytes (first ∷ files) rest file others e joined some ends =
    (e.0, e.1, e.2, e.3, ends_more e.0 files rest file others e.4 joined some ends)

pub chained : (bytes : List ℕ) (files : List (List ℕ)) (rest : List ℕ) → EndsWith bytes files rest → rest ≡ [] → AreChained bytes files
chained bytes [] rest e none = e ∙ none
chained bytes (file ∷ files) rest e none = (e.0, e.1, e.2, e.3, chained e.0 files rest e.4 none)

-- so joined they are the bytes
pub joined : (bytes : List ℕ) (parts : List Part) → AreChained bytes (map (λ part. part.bytes.now) parts)
    → flat_map (λ part. part.bytes.now) parts ≡ bytes
joined bytes [] e = sym e
joined bytes (part ∷ parts) e = ap (λ (l : List ℕ). part.bytes.now ++ l) (joined e.0 parts e.4) ∙ sym e.1

-- one more, with the next number
pub numbered_more : (before : ℕ) (parts : List Part) (part : Part) → AreNumbered before parts → part.number ≡ before + length parts + 1
    → AreNumbered before (parts ++ part ∷ [])
numbered_more before [] part are is = (omega (arith, is), tt)
numbered_more before (first ∷ parts) part are is = (are.0, numbered_more (before + 1) parts part are.1 (omega (arith, is)))
