-- A header is read from its own bytes alone, and a valid one shows no fault: for `Fronts` and `HeaderRefused`.
use Rattle.std.proofs.Common.{◌≡◌, ℕ, ◌<◌, ◌≤◌, List, ◌++◌, length, take, drop, sym, ap, subst, ◌∙◌, arith, ◌⊎◌, inl, inr}
use Rattle.std.specs.Prelude.{slice_index, slice_range}
use Rattle.std.proofs.Math.Seq.{take-append_seam}
use Rattle.std.proofs.lemmas.List.{append_cancel_left, get_or_append_left, get_or-take, take-append-drop, take-append-le, length-take, drop-take, take-take}
use Rattle.fit_base.specs.Number.{low_first}
use Rattle.fit_grammar.specs.declared.file.frame.Frame.{Frame}
use Rattle.fit_grammar.specs.declared.file.fault.FaultKind.{FaultKind}
use Rattle.fit_grammar.specs.declared.file.fault.FaultKind.TheVariants.{Truncated, HeaderSize, Magic, Protocol, HeaderCrc, UndefinedLocal, SplitMessage, FileCrc, TrailingBytes, Memory}
use Rattle.fit_grammar.specs.Format.File.{IsHeader, ChecksHeader}
use Rattle.fit_grammar.specs.Format.Refusal.{HeaderShows}

pub header_length : (h : List ℕ) (fr : Frame) (s : ℕ) → IsHeader h fr s → (length h ≡ 12) ⊎ (length h ≡ 14)
header_length h fr s p = elim p.is_frame.size [ inl e ↦ inl (p.whole ∙ e) | inr e ↦ inr (p.whole ∙ e) ]

pub header_at_least : (h : List ℕ) (fr : Frame) (s : ℕ) → IsHeader h fr s → 12 ≤ length h
header_at_least h fr s p = elim (header_length h fr s p) [ inl e ↦ omega arith | inr e ↦ omega arith ]

-- byte 0 is the length of the header
pub header_first : (h : List ℕ) (fr : Frame) (s : ℕ) (z : List ℕ) → IsHeader h fr s → slice_index (h ++ z) 0 ≡ length h
header_first h fr s z p =
    let long = header_at_least h fr s p in
    get_or_append_left h z 0 0 (omega arith) ∙ p.header_size ∙ sym p.whole

-- the bytes of a header determine its frame and its size
pub same_frame : (h : List ℕ) (fr : Frame) (s : ℕ) (fr' : Frame) (s' : ℕ) → IsHeader h fr s → IsHeader h fr' s' → fr ≡ fr'
same_frame h fr s fr' s' p p' =
    let size : fr.header_size ≡ fr'.header_size = sym p.header_size ∙ p'.header_size in
    let protocol : fr.protocol ≡ fr'.protocol = sym p.protocol ∙ p'.protocol in
    let profile : fr.profile ≡ fr'.profile = sym p.profile ∙ p'.profile in
    ap (λ (n : ℕ). record fr { header_size = n }) size
    ∙ ap (λ (n : ℕ). record fr { header_size = fr'.header_size; protocol = n }) protocol
    ∙ ap (λ (n : ℕ). record fr' { profile = n }) profile

-- the same bytes begin with at most one header
pub record SameHeader (h : List ℕ) (fr : Frame) (s : ℕ) (z h' : List ℕ) (fr' : Frame) (s' : ℕ) (z' : List ℕ) : Type 0 where
  pub header : h ≡ h'
  pub frame : fr ≡ fr'
  pub size : s ≡ s'
  pub rest : z ≡ z'

pub same_header : (h : List ℕ) (fr : Frame) (s : ℕ) (z h' : List ℕ) (fr' : Frame) (s' : ℕ) (z' : List ℕ)
    → IsHeader h fr s → IsHeader h' fr' s' → h ++ z ≡ h' ++ z' → SameHeader h fr s z h' fr' s' z'
same_header h fr s z h' fr' s' z' p p' e =
    let n : length h ≡ length h' = sym (header_first h fr s z p) ∙ ap (λ (l : List ℕ). slice_index l 0) e ∙ header_first h' fr' s' z' p' in
    let same : h ≡ h' = sym (take-append_seam h z) ∙ ap (λ (l : List ℕ). take (length h) l) e
    ∙ ap (λ (k : ℕ). take k (h' ++ z')) n ∙ take-append_seam h' z' in
    record {
      header = same;
      frame = same_frame h fr s fr' s' p (subst (λ (l : List ℕ). IsHeader l fr' s') (sym same) p');
      size = sym p.data_size ∙ ap (λ (l : List ℕ). low_first (slice_range l 4 8)) same ∙ p'.data_size;
      rest = append_cancel_left h z z' (e ∙ ap (λ (l : List ℕ). l ++ z') (sym same));
    }

-- a prefix is the prefix of its own length
pub take_own : (m : ℕ) (b : List ℕ) → take m b ≡ take (length (take m b)) b
take_own m b =
    sym (ap (λ (l : List ℕ). take (length (take m b)) l) (sym (take-append-drop m b)) ∙ take-append_seam (take m b) (drop m b))

pub take_read : (m : ℕ) (b : List ℕ) (i : ℕ) → i < length (take m b) → slice_index (take m b) i ≡ slice_index b i
take_read m b i lt = get_or-take m b i 0 (omega (arith, length-take m b))

-- if bytes begin with a valid header, none of their prefixes shows a fault of the header
pub header_quiet : (kind : FaultKind) (place m : ℕ) (h : List ℕ) (fr : Frame) (s : ℕ) (z : List ℕ) → IsHeader h fr s
    → HeaderShows kind place (take m (h ++ z)) → ⊥
header_quiet HeaderSize place m h fr s z p sh =
    let e : slice_index (take m (h ++ z)) 0 ≡ length h = take_read m (h ++ z) 0 (omega (arith, sh.1)) ∙ header_first h fr s z p in
    elim (header_length h fr s p) [ inl l ↦ sh.2 (e ∙ l) | inr l ↦ sh.3 (e ∙ l) ]
header_quiet Protocol place m h fr s z p sh =
    let long = header_at_least h fr s p in
    let e : slice_index (take m (h ++ z)) 1 ≡ fr.protocol = take_read m (h ++ z) 1 (omega (arith, sh.1))
    ∙ get_or_append_left h z 0 1 (omega arith) ∙ p.protocol in
    elim p.is_frame.major [ inl l ↦ sh.2 (rw e l) | inr l ↦ sh.3 (rw e l) ]
header_quiet Magic place m h fr s z p sh =
    let long = header_at_least h fr s p in
    let e : take m (h ++ z) ≡ take 12 h = take_own m (h ++ z) ∙ ap (λ (k : ℕ). take k (h ++ z)) sh.1 ∙ take-append-le 12 h z long in
    sh.2 (ap (λ (l : List ℕ). slice_range l 8 12) e
    ∙ (ap (λ (l : List ℕ). take 4 l) (drop-take 8 4 h) ∙ take-take 4 4 (drop 8 h) (omega arith)) ∙ p.marked)
header_quiet HeaderCrc place m h fr s z p sh =
    let size : length h ≡ 14 = sym (header_first h fr s z p) ∙ sym (take_read m (h ++ z) 0 (omega (arith, sh.1))) ∙ sh.2 in
    let e : take m (h ++ z) ≡ h = take_own m (h ++ z) ∙ ap (λ (k : ℕ). take k (h ++ z)) (sh.1 ∙ sym size) ∙ take-append_seam h z in
    sh.3 (subst ChecksHeader (sym e) (p.checked (sym p.whole ∙ size)))
header_quiet Truncated place m h fr s z p sh = sh
header_quiet (UndefinedLocal l) place m h fr s z p sh = sh
header_quiet SplitMessage place m h fr s z p sh = sh
header_quiet FileCrc place m h fr s z p sh = sh
header_quiet TrailingBytes place m h fr s z p sh = sh
header_quiet Memory place m h fr s z p sh = sh
