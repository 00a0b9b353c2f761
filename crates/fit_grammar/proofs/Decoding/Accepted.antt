-- An exit: an item that begins well, what its bytes may still show, and the end of the input within it. For `Shown`.
use Rattle.std.proofs.Common.{◌≡◌, ℕ, ◌+◌, ◌*◌, ◌<◌, ◌≤◌, Bool, true, List, [], ◌∷◌, ◌++◌, length, take, drop, Option, Some, None, sym, ap, ◌∙◌, arith, inl, inr, ◌⊎◌}
use Rattle.std.specs.Prelude.{slice_index, IsSomeAnd}
use Rattle.std.proofs.lemmas.List.{length-append, append-nil, get_or-take, take-append-drop, length-take-le}
use Rattle.fit_grammar.specs.declared.definition.Definition.{Definition}
use Rattle.fit_grammar.specs.declared.file.fault.FaultKind.{FaultKind}
use Rattle.fit_grammar.specs.declared.file.fault.FaultKind.TheVariants.{Truncated, HeaderSize, Magic, Protocol, HeaderCrc, UndefinedLocal, SplitMessage, FileCrc, TrailingBytes, Memory}
use Rattle.fit_grammar.specs.Format.Item.{Head, head_of, DefinitionHead, DataHead, content_size, part_size}
use Rattle.fit_grammar.specs.Format.Records.{in_force}
use Rattle.fit_grammar.specs.Format.Refusal.{Front, front_bytes, front_end, IsFront, TailShows, SplitsAtFirst, SplitsAtCount, SplitsAtDeveloperCount, Refusal}
use Rattle.fit_grammar.proofs.OneItem.Spelling.{spelling_not_empty}
use Rattle.fit_grammar.proofs.Decoding.Quiet.{item_quiet, same_byte}
use Rattle.fit_grammar.proofs.Decoding.Blocked.{Blocked, tail_not_empty}
use Rattle.fit_grammar.proofs.Decoding.Refused.{Stands, refused, cut_short}

-- the first byte after a front shows no fault: it begins an item whose least length fits into the data
abbrev pub AcceptsHead : Front → Head → Type 0
AcceptsHead f (DefinitionHead local announced) = length f.records + 6 ≤ f.size
AcceptsHead f (DataHead local offset) = IsSomeAnd (in_force f.items local) (λ d. length f.records + (1 + content_size d) ≤ f.size)

none_accepted : (o : Option Definition) (P : Definition → Type 0) → IsSomeAnd o P → o ≡ None → ⊥
none_accepted None P h e = h
none_accepted (Some d) P h e = cc

both_sizes : (o : Option Definition) (r s : ℕ) → IsSomeAnd o (λ d. r + (1 + content_size d) ≤ s)
    → IsSomeAnd o (λ d. s < r + (1 + content_size d)) → ⊥
both_sizes None r s h g = h
both_sizes (Some d) r s h g = omega arith

-- an accepted byte accepts its own head
accepts_as : (f : Front) (byte : ℕ) (h : Head) → AcceptsHead f (head_of byte) → head_of byte ≡ h → AcceptsHead f h
accepts_as f byte h a e = rw e at a

first_of_tail : (byte : ℕ) (after tail more : List ℕ) (other : ℕ) → byte ∷ after ≡ tail ++ more → tail ≡ other ∷ [] → byte ≡ other
first_of_tail byte after tail more other e is = ap (λ (l : List ℕ). slice_index l 0) (e ∙ ap (λ (l : List ℕ). l ++ more) is)

first_accepted : (f : Front) (byte : ℕ) (after tail more : List ℕ) → AcceptsHead f (head_of byte)
    → byte ∷ after ≡ tail ++ more → SplitsAtFirst f tail → ⊥
first_accepted f byte after tail more a e (other, is, inl h) =
    let same = first_of_tail byte after tail more other e is in
    let fits = accepts_as f byte (DefinitionHead h.0 h.1) a (ap head_of same ∙ h.2) in
    omega (arith, h.3)
first_accepted f byte after tail more a e (other, is, inr h) =
    let same = first_of_tail byte after tail more other e is in
    both_sizes (in_force f.items h.0) (length f.records) f.size (accepts_as f byte (DataHead h.0 h.1) a (ap head_of same ∙ h.2)) h.3

-- a number of fields, or of developer fields, shows that the definition extends past the end of the data
abbrev pub SplitsAtCounts : Front → List ℕ → Type 0
SplitsAtCounts f tail = SplitsAtCount f tail ⊎ SplitsAtDeveloperCount f tail

-- apart from its first byte, only these numbers of a definition can show a fault
pub accepted_mute : (kind : FaultKind) (f : Front) (byte : ℕ) (after tail more : List ℕ) → length f.records < f.size
    → AcceptsHead f (head_of byte) → byte ∷ after ≡ tail ++ more → (SplitsAtCounts f tail → ⊥) → TailShows kind f tail → ⊥
accepted_mute (UndefinedLocal local) f byte after tail more lt a e n sh =
    let same = first_of_tail byte after tail more sh.1 e sh.3 in
    none_accepted (in_force f.items local) (λ d. length f.records + (1 + content_size d) ≤ f.size)
    (accepts_as f byte (DataHead local sh.2) a (ap head_of same ∙ sh.4)) sh.5
accepted_mute SplitMessage f byte after tail more lt a e n (l, inl h) = first_accepted f byte after tail more a e h
accepted_mute SplitMessage f byte after tail more lt a e n (l, inr h) = n h
accepted_mute FileCrc f byte after tail more lt a e n sh = omega (arith, sh.0)
accepted_mute TrailingBytes f byte after tail more lt a e n sh = omega (arith, sh.0)
accepted_mute HeaderSize f byte after tail more lt a e n sh = sh
accepted_mute Protocol f byte after tail more lt a e n sh = sh
accepted_mute Magic f byte after tail more lt a e n sh = sh
accepted_mute HeaderCrc f byte after tail more lt a e n sh = sh
accepted_mute Truncated f byte after tail more lt a e n sh = sh
accepted_mute Memory f byte after tail more lt a e n sh = sh

-- fewer than six bytes show no number
few_quiet : (f : Front) (tail : List ℕ) → length tail < 6 → SplitsAtCounts f tail → ⊥
few_quiet f tail lt (inl h) = omega (arith, h.0)
few_quiet f tail lt (inr h) = omega (arith, h.0)

-- nothing shorter than one byte shows a fault
pub stands_one : (b : List ℕ) (f : Front) (rest : List ℕ) → IsFront f → b ≡ front_bytes f ++ rest → Stands b f rest 1
stands_one b f rest p e = record {
  is_front = p;
  joined = e;
  blocked = λ more. absurd (omega arith);
  mute = λ kind tail after is lt shown. omega (arith, tail_not_empty kind f tail shown);
}

-- a definition whose number of fields shows that it extends past the end of the data
pub count_refused : (b : List ℕ) (f : Front) (byte : ℕ) (after : List ℕ) → IsFront f
    → b ≡ front_bytes f ++ (byte ∷ after) → length f.records < f.size → AcceptsHead f (head_of byte)
    → (local : ℕ) (announced : Bool) → head_of byte ≡ DefinitionHead local announced → 6 ≤ length (byte ∷ after)
    → f.size < length f.records + (6 + 3 * slice_index (byte ∷ after) 5 + part_size announced 0) → Refusal b SplitMessage (front_end f)
count_refused b f byte after p e lt a local announced head six past =
    let rest = byte ∷ after in
    let tail = take 6 rest in
    let parts : tail ++ drop 6 rest ≡ rest = take-append-drop 6 rest in
    let shown : SplitsAtCount f tail = (
      length-take-le 6 rest six,
      local,
      announced,
      ap head_of (get_or-take 6 rest 0 0 (omega arith)) ∙ head,
      omega (arith, past, get_or-take 6 rest 5 0 (omega arith)),
    ) in
    refused SplitMessage b f tail (drop 6 rest) (record {
      is_front = p;
      joined = e ∙ ap (λ (l : List ℕ). front_bytes f ++ l) (sym parts);
      blocked = λ _ item own u joined inside.
          item_quiet SplitMessage f tail (drop 6 rest) item own u inside (sym joined) (lt, inr (inl shown));
      mute = λ kind t more is short sh. accepted_mute kind f byte after t more lt a (sym parts ∙ is)
          (few_quiet f t (omega (arith, short, length-take-le 6 rest six))) sh;
    }) (lt, inr (inl shown))

-- if six bytes do not show it, no bytes before the number of developer fields do
before_count : (f : Front) (rest tail more : List ℕ) (local : ℕ) → 6 ≤ length rest → head_of (slice_index rest 0) ≡ DefinitionHead local true
    → length f.records + (6 + 3 * slice_index rest 5 + part_size true 0) ≤ f.size → rest ≡ tail ++ more
    → length tail < 7 + 3 * slice_index rest 5 → SplitsAtCounts f tail → ⊥
before_count f rest tail more local six head fits joined less (inl (long, l, announced, other, past)) =
    let e : rest ++ [] ≡ tail ++ more = append-nil rest ∙ joined in
    let fifth = same_byte rest [] tail more 5 e (omega (arith, six)) (omega (arith, long)) in
    let first = same_byte rest [] tail more 0 e (omega (arith, six)) (omega (arith, long)) in
    let same : DefinitionHead local true ≡ DefinitionHead l announced = sym head ∙ ap head_of first ∙ other in
    let is : announced ≡ true = cc in
    let part : part_size announced 0 ≡ part_size true 0 = ap (λ (x : Bool). part_size x 0) is in
    omega (arith, past, fits, fifth, part)
before_count f rest tail more local six head fits joined less (inr (long, l, other, past)) =
    let e : rest ++ [] ≡ tail ++ more = append-nil rest ∙ joined in
    let fifth = same_byte rest [] tail more 5 e (omega (arith, six)) (omega (arith, long)) in
    omega (arith, long, less, fifth)

-- a definition whose number of developer fields shows that it extends past the end of the data
pub developer_count_refused : (b : List ℕ) (f : Front) (byte : ℕ) (after : List ℕ) → IsFront f
    → b ≡ front_bytes f ++ (byte ∷ after) → length f.records < f.size → AcceptsHead f (head_of byte)
    → (local : ℕ) → head_of byte ≡ DefinitionHead local true
    → 6 + 3 * slice_index (byte ∷ after) 5 < length (byte ∷ after)
    → length f.records + (6 + 3 * slice_index (byte ∷ after) 5 + part_size true 0) ≤ f.size
    → f.size < length f.records + (6 + 3 * slice_index (byte ∷ after) 5
    + part_size true (slice_index (byte ∷ after) (6 + 3 * slice_index (byte ∷ after) 5))) → Refusal b SplitMessage (front_end f)
developer_count_refused b f byte after p e lt a local head there fits past =
    let rest = byte ∷ after in
    let count = slice_index rest 5 in
    let n = 7 + 3 * count in
    let tail = take n rest in
    let parts : tail ++ drop n rest ≡ rest = take-append-drop n rest in
    let long : length tail ≡ n = length-take-le n rest (omega (arith, there)) in
    let fifth : slice_index tail 5 ≡ count = get_or-take n rest 5 0 (omega arith) in
    let last : slice_index tail (6 + 3 * slice_index tail 5) ≡ slice_index rest (6 + 3 * count) =
    ap (λ (k : ℕ). slice_index tail (6 + 3 * k)) fifth ∙ get_or-take n rest (6 + 3 * count) 0 (omega arith) in
    let shown : SplitsAtDeveloperCount f tail = (
      omega (arith, long, fifth),
      local,
      ap head_of (get_or-take n rest 0 0 (omega arith)) ∙ head,
      omega (arith, past, fifth, last),
    ) in
    refused SplitMessage b f tail (drop n rest) (record {
      is_front = p;
      joined = e ∙ ap (λ (l : List ℕ). front_bytes f ++ l) (sym parts);
      blocked = λ _ item own u joined inside.
          item_quiet SplitMessage f tail (drop n rest) item own u inside (sym joined) (lt, inr (inr shown));
      mute = λ kind t more is short sh. accepted_mute kind f byte after t more lt a (sym parts ∙ is)
          (before_count f rest t more local (omega (arith, there)) head fits (sym parts ∙ is) (omega (arith, short, long))) sh;
    }) (lt, inr (inr shown))

-- the bytes end within an item that is not whole
pub ends_within : (b : List ℕ) (f : Front) (byte : ℕ) (after : List ℕ) → IsFront f
    → b ≡ front_bytes f ++ (byte ∷ after) → length f.records < f.size → AcceptsHead f (head_of byte)
    → Blocked f (byte ∷ after) → ((tail more : List ℕ) → byte ∷ after ≡ tail ++ more → SplitsAtCounts f tail → ⊥)
    → Refusal b Truncated (length b)
ends_within b f byte after p e lt a blocked count =
    cut_short b f (byte ∷ after) (record {
      is_front = p;
      joined = e;
      blocked = λ _. blocked;
      mute = λ kind tail more is short shown. accepted_mute kind f byte after tail more lt a is (count tail more is) shown;
    }) blocked (λ full. absurd (omega arith))

-- the bytes end at the place of the next item
pub ends_before : (b : List ℕ) (f : Front) → IsFront f → b ≡ front_bytes f ++ [] → length f.records < f.size
    → Refusal b Truncated (length b)
ends_before b f p e lt =
    let blocked : Blocked f [] = λ item own u joined inside.
    omega (arith, ap length joined, length-append own u, spelling_not_empty item own inside.spelled) in
    cut_short b f [] (record {
      is_front = p;
      joined = e;
      blocked = λ _. blocked;
      mute = λ kind tail more is short shown. omega (arith, tail_not_empty kind f tail shown, ap length is, length-append tail more);
    }) blocked (λ full. absurd (omega arith))
