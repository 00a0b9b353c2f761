-- An exit: the header is refused, or the input ends within it. For `HeaderRead`.
use Rattle.std.proofs.Common.{◌≡◌, ◌≢◌, ℕ, ◌+◌, ◌/◌, ◌<◌, ◌≤◌, List, ◌∷◌, ◌++◌, length, take, drop, ap, ◌∙◌, append_assoc, arith, ◌⊎◌, inl, inr, refl}
use Rattle.std.specs.Prelude.{slice_index, slice_range}
use Rattle.std.proofs.lemmas.Bool.{cases_lt}
use Rattle.std.proofs.lemmas.List.{length-append, length-take, drop-take, take-take}
use Rattle.fit_grammar.specs.declared.file.fault.FaultKind.{FaultKind}
use Rattle.fit_grammar.specs.declared.file.fault.FaultKind.TheVariants.{Truncated, HeaderSize, Magic, Protocol, HeaderCrc, UndefinedLocal, SplitMessage, FileCrc, TrailingBytes, Memory}
use Rattle.fit_grammar.specs.Format.File.{FileValue, FileOf, mark}
use Rattle.fit_grammar.specs.Format.Refusal.{Front, front_bytes, IsFront, HeaderShows, Shows, Refusal}
use Rattle.fit_grammar.proofs.Decoding.Headers.{header_at_least, header_first, take_read, take_own}
use Rattle.fit_grammar.proofs.Decoding.Fronts.{file_front, file_is_front}

-- bytes that begin with a front have at least its header; byte 0 gives the header's length
front_long : (f : Front) (z : List ℕ) → IsFront f
    → (12 ≤ length f.header) × (length f.header ≤ length (front_bytes f ++ z)) × (slice_index (front_bytes f ++ z) 0 ≡ length f.header)
front_long f z p =
    let e = append_assoc f.header f.records z in (
      header_at_least f.header f.frame f.size p.is_header,
      omega (arith, length-append (front_bytes f) z, length-append f.header f.records),
      ap (λ (l : List ℕ). slice_index l 0) e ∙ header_first f.header f.frame f.size (f.records ++ z) p.is_header,
    )

-- fewer than 12 bytes, or fewer than 14 that begin with 14, hold no front
abbrev pub TooShort : List ℕ → Type 0
TooShort x = (length x < 12) ⊎ ((slice_index x 0 ≡ 14) × (length x < 14))

no_front : (x : List ℕ) (f : Front) (z : List ℕ) → IsFront f → x ≡ front_bytes f ++ z → TooShort x → ⊥
no_front x f z p e (inl short) = let l = front_long f z p in omega (arith, ap length e, l.0, l.1)
no_front x f z p e (inr short) =
    let l = front_long f z p in omega (arith, ap length e, ap (λ (k : List ℕ). slice_index k 0) e, l.1, l.2, short.0, short.1)

-- in bytes that are too short only the header shows a fault
header_only : (kind : FaultKind) (place : ℕ) (x : List ℕ) → TooShort x → Shows kind place x → HeaderShows kind place x
header_only kind place x short (inl h) = h
header_only kind place x short (inr s) = absurd (no_front x s.front s.tail s.is_front s.joined short)

-- bytes that are too short are no file
short_no_file : (x : List ℕ) → TooShort x → (v : FileValue) → FileOf x v → ⊥
short_no_file x short v h = no_front x (file_front x v h) h.closing (file_is_front x v h) h.joined short

-- the header's checks that need fewer bytes than these pass
pub record Passes (b : List ℕ) (count : ℕ) : Type 0 where
  pub first : (slice_index b 0 ≡ 12) ⊎ (slice_index b 0 ≡ 14)
  pub major : 2 < count → (slice_index b 1 / 16 ≡ 1) ⊎ (slice_index b 1 / 16 ≡ 2)
  pub marked : 12 < count → slice_range b 8 12 ≡ mark
  pub within : count ≤ slice_index b 0

header_passed : (kind : FaultKind) (place n count : ℕ) (b : List ℕ) → Passes b count → n < count → HeaderShows kind place (take n b) → ⊥
header_passed HeaderSize place n count b p lt sh =
    let e = take_read n b 0 (omega (arith, sh.1)) in
    elim p.first [ inl l ↦ sh.2 (e ∙ l) | inr l ↦ sh.3 (e ∙ l) ]
header_passed Protocol place n count b p lt sh =
    let e = take_read n b 1 (omega (arith, sh.1)) in
    elim (p.major (omega (arith, sh.1, length-take n b))) [ inl l ↦ sh.2 (rw e l) | inr l ↦ sh.3 (rw e l) ]
header_passed Magic place n count b p lt sh =
    let long : 12 ≤ n = omega (arith, sh.1, length-take n b) in
    let le = p.within in
    let whole : take n b ≡ take 12 b = take_own n b ∙ ap (λ (k : ℕ). take k b) sh.1 in
    sh.2 (ap (λ (l : List ℕ). slice_range l 8 12) whole
    ∙ (ap (λ (l : List ℕ). take 4 l) (drop-take 8 4 b) ∙ take-take 4 4 (drop 8 b) (omega arith)) ∙ p.marked (omega arith))
header_passed HeaderCrc place n count b p lt sh =
    let le = p.within in
    elim p.first [ inl l ↦ omega (arith, sh.1, length-take n b) | inr l ↦ omega (arith, sh.1, length-take n b) ]
header_passed Truncated place n count b p lt sh = sh
header_passed (UndefinedLocal l) place n count b p lt sh = sh
header_passed SplitMessage place n count b p lt sh = sh
header_passed FileCrc place n count b p lt sh = sh
header_passed TrailingBytes place n count b p lt sh = sh
header_passed Memory place n count b p lt sh = sh

-- a prefix that is shorter than the header is too short
beginning_short : (n : ℕ) (b : List ℕ) → (slice_index b 0 ≡ 12) ⊎ (slice_index b 0 ≡ 14) → n < slice_index b 0 → TooShort (take n b)
beginning_short n b (inl first) lt = inl (omega (arith, length-take n b))
beginning_short n b (inr first) lt =
    elim (cases_lt (length (take n b)) 12) [
      | inl less ↦ inl less
      | inr more ↦ inr (take_read n b 0 (omega arith) ∙ first, omega (arith, length-take n b))
    ]

passed_quiet : (kind : FaultKind) (place n count : ℕ) (b : List ℕ) → Passes b count → n < count → Shows kind place (take n b) → ⊥
passed_quiet kind place n count b p lt shown =
    let le = p.within in
    header_passed kind place n count b p lt (header_only kind place (take n b) (beginning_short n b p.first (omega arith)) shown)

-- the header fails a check
pub header_refused : (kind : FaultKind) (place count : ℕ) (b : List ℕ) → Passes b count → count ≤ length b
    → HeaderShows kind place (take count b) → Refusal b kind place
header_refused kind place count b p le h =
    inl (record {
      count = count;
      within = le;
      shown = inl h;
      shortest = λ n other at lt shown. passed_quiet other at n count b p lt shown;
    })

whole_short : (b : List ℕ) → (slice_index b 0 ≡ 12) ⊎ (slice_index b 0 ≡ 14) → length b < slice_index b 0 → TooShort b
whole_short b (inl first) lt = inl (omega arith)
whole_short b (inr first) lt = inr (first, omega arith)

-- the input ends within the header
pub header_cut : (b : List ℕ) → Passes b (length b + 1) → Refusal b Truncated (length b)
header_cut b p =
    let le = p.within in
    inr (record {
      truncated = refl;
      at_end = refl;
      none_shown = λ n other at le shown. passed_quiet other at n (length b + 1) b p (omega arith) shown;
      no_file = short_no_file b (whole_short b p.first (omega arith));
    })

nothing_shown : (kind : FaultKind) (place : ℕ) (x : List ℕ) → length x ≡ 0 → HeaderShows kind place x → ⊥
nothing_shown HeaderSize place x e sh = omega (arith, sh.1)
nothing_shown Protocol place x e sh = omega (arith, sh.1)
nothing_shown Magic place x e sh = omega (arith, sh.1)
nothing_shown HeaderCrc place x e sh = omega (arith, sh.1)
nothing_shown Truncated place x e sh = sh
nothing_shown (UndefinedLocal l) place x e sh = sh
nothing_shown SplitMessage place x e sh = sh
nothing_shown FileCrc place x e sh = sh
nothing_shown TrailingBytes place x e sh = sh
nothing_shown Memory place x e sh = sh

empty_quiet : (kind : FaultKind) (place : ℕ) (x : List ℕ) → length x ≡ 0 → Shows kind place x → ⊥
empty_quiet kind place x e shown =
    nothing_shown kind place x e (header_only kind place x (inl (omega arith)) shown)

-- the input is empty
pub empty_cut : (b : List ℕ) → length b ≡ 0 → Refusal b Truncated (length b)
empty_cut b e =
    inr (record {
      truncated = refl;
      at_end = refl;
      none_shown = λ n other at le shown. empty_quiet other at (take n b) (omega (arith, length-take n b)) shown;
      no_file = short_no_file b (inl (omega arith));
    })

-- byte 0 is not 12 or 14
pub size_refused : (byte : ℕ) (rest : List ℕ) → byte ≢ 12 → byte ≢ 14 → Refusal (byte ∷ rest) HeaderSize 0
size_refused byte rest a c =
    inl (record {
      count = 1;
      within = omega arith;
      shown = inl (refl, refl, a, c);
      shortest = λ n other at lt shown. empty_quiet other at (take n (byte ∷ rest)) (omega (arith, length-take n (byte ∷ rest))) shown;
    })
