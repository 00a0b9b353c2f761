-- The parts that bytes are, one after another: for `fitrec_join`.
use Rattle.std.proofs.Common.{◌≡◌, ℕ, ◌+◌, ◌-◌, ◌<◌, inl, inr, List, [], ◌∷◌, ◌++◌, length, drop, take, refl, sym, ap, subst, ◌∙◌, append_assoc, append-nil, arith}
use Rattle.std.proofs.lemmas.List.{length-append, length-take, take-append-drop}
use Rattle.std.proofs.Math.Seq.{drop-append_seam}
use Rattle.std.specs.List.{AllByRecursion}
use Rattle.fit_grammar.specs.Calls.PlainForm.{IsPlain}
use Rattle.fit_grammar.specs.Format.File.{FileValue, FileOf}
use Rattle.fit_joining.specs.declared.part.Part.{Part}
use Rattle.fit_mending.specs.Chained.{EndsFirst}
use Rattle.fit_c.specs.Joined.{AreChained, ArePlain, AreParts, BeginsPart, EndParts, IsNoPart, IsReadTo, IsRefusedPart}

-- ---- a row that grows

pub whole : (n : ℕ) (rest own others : List ℕ) → own ≡ take n rest → others ≡ drop n rest → rest ≡ own ++ others
whole n rest own others front back =
    sym (take-append-drop n rest) ∙ ap (λ (l : List ℕ). l ++ drop n rest) (sym front) ∙ ap (λ (l : List ℕ). own ++ l) (sym back)

pub chained_more : (before own : List ℕ) (parts : List Part) (part : Part) → AreChained before parts → FileOf own part.file
    → AreChained (before ++ own) (parts ++ part ∷ [])
chained_more before own [] part none file =
    (own, [], ap (λ (l : List ℕ). l ++ own) none ∙ sym (append-nil own), file, refl)
chained_more before own (first ∷ parts) part chained file =
    let one = chained.0 in
    let rest = chained.1 in
    (one, rest ++ own, ap (λ (l : List ℕ). l ++ own) chained.2 ∙ append_assoc one rest own, chained.3, chained_more rest own parts part chained.4 file)

pub plain_more : (parts : List Part) (part : Part) → ArePlain parts → AllByRecursion IsPlain part.file.items → ArePlain (parts ++ part ∷ [])
plain_more [] part all plain = (plain, tt)
plain_more (first ∷ parts) part all plain = (all.0, plain_more parts part all.1 plain)

-- after one part more
pub read_on : (bytes own others : List ℕ) (parts : List Part) (part : Part) → IsReadTo bytes (own ++ others) parts → FileOf own part.file
    → AllByRecursion IsPlain part.file.items → IsReadTo bytes others (parts ++ part ∷ [])
read_on bytes own others parts part read file plain = record {
  before = read.before ++ own;
  split = read.split ∙ sym (append_assoc read.before own others);
  are = (chained_more read.before own parts part read.are.0 file, plain_more parts part read.are.1 plain);
}

pub part_added : (part : Part) (bytes rest : List ℕ) (n : ℕ) (own others : List ℕ) (parts new : List Part) → own ≡ take n rest → others ≡ drop n rest
    → IsReadTo bytes rest parts → FileOf own part.file → AllByRecursion IsPlain part.file.items → new ≡ parts ++ part ∷ [] → IsReadTo bytes others new
part_added part bytes rest n own others parts new front back read file plain pushed =
    subst (IsReadTo bytes others) (sym pushed)
    (read_on bytes own others parts part (subst (λ (l : List ℕ). IsReadTo bytes l parts) (whole n rest own others front back) read) file plain)

-- at the end
pub read_all : (bytes : List ℕ) (parts : List Part) → IsReadTo bytes [] parts → AreParts bytes parts
read_all bytes parts read = subst (λ (l : List ℕ). AreParts l parts) (sym (read.split ∙ append-nil read.before)) read.are

-- before the first part
pub read_none : (bytes : List ℕ) → IsReadTo bytes bytes []
read_none bytes = record { before = []; split = refl; are = (refl, tt) }

-- ---- what is refused

-- what follows the parts that were read begins here, and ends as its header says
begins_part : (bytes rest : List ℕ) (n : ℕ) (own others : List ℕ) (parts : List Part) → own ≡ take n rest → others ≡ drop n rest → EndsFirst rest n
    → (read : IsReadTo bytes rest parts) → BeginsPart bytes (length read.before) own
begins_part bytes rest n own others parts front back ends read =
    let all = whole n rest own others front back in
    let long : n ≡ length own = omega (arith, ap length front, length-take n rest, ends.within) in
    record {
      before = read.before;
      rest = others;
      split = read.split ∙ ap (λ (l : List ℕ). read.before ++ l) all;
      place_is = refl;
      parts = parts;
      are = read.are;
      ends = subst (λ (l : List ℕ). EndsFirst l (length own)) all (subst (EndsFirst rest) long ends);
    }

passed : (bytes rest : List ℕ) (parts : List Part) (read : IsReadTo bytes rest parts) → length bytes ≡ length read.before + length rest
passed bytes rest parts read = ap length read.split ∙ length-append read.before rest

-- so it is refused where the place within it is, after them
pub refused_at : (bytes rest : List ℕ) (n : ℕ) (own others : List ℕ) (parts : List Part) (code within old new : ℕ) → own ≡ take n rest
    → others ≡ drop n rest → EndsFirst rest n → IsReadTo bytes rest parts → IsNoPart own code within
    → new ≡ within + (length bytes - length rest) → IsRefusedPart bytes code old new
refused_at bytes rest n own others parts code within old new front back ends read (inl no_file) there = inl (
  no_file.0,
  no_file.1,
  record {
    at = length read.before;
    own = own;
    begins = begins_part bytes rest n own others parts front back ends read;
    within = within;
    no_file = no_file.2;
    place_is = omega (arith, there, passed bytes rest parts read);
  },
)
refused_at bytes rest n own others parts code within old new front back ends read (inr short) there = inr (inl (
  short.0,
  record {
    own = own;
    begins = subst (λ (at : ℕ). BeginsPart bytes at own) (omega (arith, there, short.1, passed bytes rest parts read))
        (begins_part bytes rest n own others parts front back ends read);
    file = short.2.0;
    is = short.2.1;
    timed = short.2.2;
  },
))

-- ---- where a part begins

-- some of the parts are the front of the bytes
chained_front : (bytes : List ℕ) (earlier others : List Part) → AreChained bytes (earlier ++ others)
    → (before : List ℕ) × (rest : List ℕ) × (bytes ≡ before ++ rest) × AreChained before earlier
chained_front bytes [] others chained = ([], bytes, refl, refl)
chained_front bytes (part ∷ earlier) others chained =
    let own = chained.0 in
    let more = chained_front chained.1 earlier others chained.4 in (
      own ++ more.0,
      more.1,
      chained.2 ∙ ap (λ (l : List ℕ). own ++ l) more.2 ∙ sym (append_assoc own more.0 more.1),
      (own, more.0, refl, chained.3, more.3),
    )

-- so many of the parts end at the place that is counted so
pub ends_there : (bytes : List ℕ) (parts : List Part) (number place : ℕ) → AreChained bytes parts → number < length parts
    → ((before rest : List ℕ) (earlier : List Part) → bytes ≡ before ++ rest → AreChained before earlier → length earlier ≡ number → place ≡ length before)
    → EndParts bytes parts number place
ends_there bytes parts number place chained few counted =
    let all = sym (take-append-drop number parts) in
    let front = chained_front bytes (take number parts) (drop number parts) (subst (AreChained bytes) all chained) in
    let many : length (take number parts) ≡ number = omega (arith, length-take number parts, few) in
    record {
      before = front.0;
      rest = front.1;
      split = front.2;
      earlier = take number parts;
      others = drop number parts;
      parts_are = all;
      chained = front.3;
      number_is = sym many;
      place_is = counted front.0 front.1 (take number parts) front.2 front.3 many;
    }

-- while they are counted: of these parts so many are left, and they begin here
abbrev pub LeftToCount : List ℕ → ℕ → ℕ → List ℕ → Type 0
LeftToCount bytes number left now =
    (before rest : List ℕ) (earlier : List Part) → bytes ≡ before ++ rest → AreChained before earlier → length earlier ≡ number
    → (more : List ℕ) × (parts : List Part) × (now ≡ more ++ rest) × AreChained more parts × (length parts ≡ left)

pub counted_none : (bytes : List ℕ) (number : ℕ) → LeftToCount bytes number number bytes
counted_none bytes number = λ before rest earlier split chained many. (before, earlier, split, chained, many)

one_counted : (now rest : List ℕ) (end left : ℕ) (more : List ℕ) (parts : List Part) → now ≡ more ++ rest → AreChained more parts → length parts ≡ left
    → 0 < left → ((file others : List ℕ) (v : FileValue) → now ≡ file ++ others → FileOf file v → end ≡ length file)
    → (less : List ℕ) × (fewer : List Part) × (drop end now ≡ less ++ rest) × AreChained less fewer × (length fewer ≡ left - 1)
one_counted now rest end left more [] is chained many some ends = absurd (omega (arith, many, some))
one_counted now rest end left more (part ∷ parts) is chained many some ends =
    let own = chained.0 in
    let less = chained.1 in
    let all : now ≡ own ++ (less ++ rest) = is ∙ ap (λ (l : List ℕ). l ++ rest) chained.2 ∙ append_assoc own less rest in
    let there = ends own (less ++ rest) part.file all chained.3 in (
      less,
      parts,
      ap (λ (n : ℕ). drop n now) there ∙ ap (drop (length own)) all ∙ drop-append_seam own (less ++ rest),
      chained.4,
      omega (arith, many),
    )

pub counted_on : (bytes now after : List ℕ) (number left end : ℕ) → LeftToCount bytes number left now → 0 < left → after ≡ drop end now
    → ((file others : List ℕ) (v : FileValue) → now ≡ file ++ others → FileOf file v → end ≡ length file)
    → LeftToCount bytes number (left - 1) after
counted_on bytes now after number left end counts some back ends = λ before rest earlier split chained many.
    let here = counts before rest earlier split chained many in
    let next = one_counted now rest end left here.0 here.1 here.2 here.3 here.4 some ends in
    (next.0, next.1, back ∙ next.2, next.3, next.4)

none_left : (more : List ℕ) (parts : List Part) → AreChained more parts → length parts ≡ 0 → length more ≡ 0
none_left more [] chained many = ap length chained
none_left more (part ∷ parts) chained many = absurd (omega (arith, many))

pub counted_all : (bytes now : List ℕ) (number left place : ℕ) → LeftToCount bytes number left now → left ≡ 0 → place ≡ length bytes - length now
    → (before rest : List ℕ) (earlier : List Part) → bytes ≡ before ++ rest → AreChained before earlier → length earlier ≡ number
    → place ≡ length before
counted_all bytes now number left place counts none is before rest earlier split chained many =
    let here = counts before rest earlier split chained many in
    omega (
      arith,
      is,
      ap length split,
      length-append before rest,
      ap length here.2,
      length-append here.0 rest,
      none_left here.0 here.1 here.3 (here.4 ∙ none),
    )
