-- Rows in which nothing is doubtful, item by item.
use Rattle.std.proofs.Common.{◌≡◌, ℕ, ◌+◌, ◌-◌, ◌*◌, ◌<◌, ◌≤◌, Bool, true, false, List, [], ◌∷◌, ◌++◌, length, take, drop, drop-drop, Option, Some, None, refl, sym, ap, subst, ◌∙◌, arith}
use Rattle.std.specs.Prelude.{option_map, ltb}
use Rattle.std.proofs.lemmas.Bool.{ltb-true, ltb-false}
use Rattle.std.proofs.lemmas.List.{length-append, length-drop}
use Rattle.fit_grammar.specs.declared.definition.Definition.{Definition}
use Rattle.fit_grammar.specs.declared.item.Item.{Item as ReadItem}
use Rattle.fit_grammar.specs.declared.item.ItemFault.{ItemFault}
use Rattle.fit_grammar.specs.declared.item.Step.{Step}
use Rattle.fit_grammar.specs.declared.item.Step.TheVariants as steps
use Rattle.fit_grammar.specs.Calls.LentMessage.{LentMessage, message_lent}
use Rattle.fit_grammar.specs.Calls.Step.{item_of, ItemAtFront, IsStep, StepReports}
use Rattle.fit_grammar.specs.Calls.Table.{in_force_after}
use Rattle.fit_grammar.proofs.OneItem.Steps.{items_one}
use Rattle.fit_mending.specs.declared.clock.Sign.{Sign}
use Rattle.fit_mending.specs.declared.clock.Sign.TheVariants.{Doubtful, Nothing, Weak, Strong}
use Rattle.fit_mending.specs.declared.progress.Progress.{Progress}
use Rattle.fit_mending.specs.declared.trial.Ahead.{Ahead}
use Rattle.fit_mending.specs.declared.trial.Need.{Need}
use Rattle.fit_mending.specs.Form.{begins_item, runs_into_unwritten}
use Rattle.fit_mending.specs.Judged.{Judgement, judged, judged_with, message_by}
use Rattle.fit_mending.specs.Private.Looking.{HasRowLeft, IsEnough, LooksOn, PassesOne, PassesTo, SaidOf, ahead_with}
use Rattle.fit_mending.specs.Steady.{HasSteady, IsSteady, Sized, quiet_after, row_size}
use Rattle.fit_mending.proofs.Riding.{message_same, no_front}

some_same : (a b : Judgement) → Some a ≡ Some b → a ≡ b
some_same a b e = cc

none_some : (a : Judgement) → Some a ≡ None → ⊥
none_some a e = cc

-- what a judgement says
said_by : (said : Option Sign) (a : Judgement) (p : Progress) → Some a ≡ option_map (λ s. judged_with s p) said
    → (sign : Sign) × (said ≡ Some sign) × (a ≡ judged_with sign p)
said_by None a p e = absurd (none_some a e)
said_by (Some sign) a p e = (sign, refl, some_same a (judged_with sign p) e)

-- the first item, as it is read and judged
pub first_said : (f g : ℕ → Option Definition) (p p2 : Progress) (quiet : ℕ) (bytes : List ℕ) (one : Sized) (row : List Sized)
    (item : ReadItem) (used : ℕ) (said : Option Sign) → IsSteady f p quiet bytes (one ∷ row) → IsStep f bytes (steps.Item item used)
    → judged p (message_lent item p.clock.last) (take used bytes) ≡ option_map (λ s. judged_with s p2) said
    → g ≡ in_force_after (item_of item) f → SaidOf g p2 quiet bytes one row used said
first_said f g p p2 quiet bytes one row item used said steady step e g_is =
    let j = steady.0 in
    let certain = steady.1 in
    let same = items_one f bytes one.item (item_of item) one.size used certain.at step.states in
    let message : message_by f p.clock.last one.item ≡ message_lent item p.clock.last =
    ap (message_by f p.clock.last) same.0 ∙ message_same f p.clock.last item used step.lent in
    let judged_is : Some j ≡ option_map (λ s. judged_with s p2) said = sym certain.is
    ∙ ap (λ (m : Option LentMessage). judged p m (take one.size bytes)) message
    ∙ ap (λ (n : ℕ). judged p (message_lent item p.clock.last) (take n bytes)) same.1 ∙ e in
    let found = said_by said j p2 judged_is in
    let sign = found.0 in
    let sign_is : j.sign ≡ sign = ap (λ (k : Judgement). k.sign) found.2 in
    let after = subst (λ (k : Judgement). IsSteady (in_force_after one.item f) k.progress (quiet_after quiet k.sign) (drop one.size bytes) row)
    found.2 steady.3 in
    let here = subst (λ (n : ℕ). IsSteady (in_force_after one.item f) p2 (quiet_after quiet sign) (drop n bytes) row) same.1 after in
    record {
      sign = sign;
      said_is = found.1;
      size = same.1;
      certain = λ d. certain.certain (sign_is ∙ d);
      short = subst (λ (s : Sign). quiet_after quiet s < 32) sign_is steady.2;
      steady = subst (λ (h : ℕ → Option Definition). IsSteady h p2 (quiet_after quiet sign) (drop used bytes) row)
          (ap (λ i. in_force_after i f) same.0 ∙ sym g_is) here;
    }

-- there is one, and its first byte may begin an item
pub begins_first : (n : ℕ) (f : ℕ → Option Definition) (p : Progress) (bytes : List ℕ) → HasSteady n f p bytes → 1 ≤ n → begins_item bytes ≡ true
begins_first n f p bytes has some = go has.1 has.3 has.4
  where
    go : (row : List Sized) → n ≤ length row → IsSteady f p has.0 bytes row → begins_item bytes ≡ true
    go [] long steady = absurd (omega (arith, long, some))
    go (one ∷ row) long steady = steady.1.begins

pub at_first : (n : ℕ) (f : ℕ → Option Definition) (p : Progress) (bytes : List ℕ) → HasSteady n f p bytes → 1 ≤ n
    → (one : Sized) × ItemAtFront f bytes one.item one.size
at_first n f p bytes has some = go has.1 has.3 has.4
  where
    go : (row : List Sized) → n ≤ length row → IsSteady f p has.0 bytes row → (one : Sized) × ItemAtFront f bytes one.item one.size
    go [] long steady = absurd (omega (arith, long, some))
    go (one ∷ row) long steady = (one, steady.1.at)

-- the first does not run into a stretch that nobody wrote
pub whole_one : (f : ℕ → Option Definition) (p : Progress) (quiet : ℕ) (bytes : List ℕ) (one : Sized) (row : List Sized) (item : ReadItem) (used : ℕ)
    → IsSteady f p quiet bytes (one ∷ row) → IsStep f bytes (steps.Item item used) → runs_into_unwritten bytes used ≡ false
whole_one f p quiet bytes one row item used steady step =
    subst (λ (n : ℕ). runs_into_unwritten bytes n ≡ false)
    (items_one f bytes one.item (item_of item) one.size used steady.1.at step.states).1 steady.1.whole

pub whole_first : (n : ℕ) (f : ℕ → Option Definition) (p : Progress) (bytes : List ℕ) (item : ReadItem) (used : ℕ) → HasSteady n f p bytes
    → 1 ≤ n → IsStep f bytes (steps.Item item used) → runs_into_unwritten bytes used ≡ false
whole_first n f p bytes item used has some step = go has.1 has.3 has.4
  where
    go : (row : List Sized) → n ≤ length row → IsSteady f p has.0 bytes row → runs_into_unwritten bytes used ≡ false
    go [] long steady = absurd (omega (arith, long, some))
    go (one ∷ row) long steady = whole_one f p has.0 bytes one row item used steady step

-- so the bytes go on with an item
pub goes_on : (n : ℕ) (f : ℕ → Option Definition) (p : Progress) (bytes : List ℕ) (step : Step) → HasSteady n f p bytes → 1 ≤ n
    → StepReports f bytes step → ((found : ReadItem) (count : ℕ) → step ≡ steps.Item found count → ⊥) → ⊥
goes_on n f p bytes step has some states none =
    let first = at_first n f p bytes has some in
    no_front f bytes step first.0.item first.0.size states none first.1

-- a step that refuses, or needs more, has no item
pub refused_none : (step : Step) (fault : ItemFault) → step ≡ steps.Refused fault → (found : ReadItem) (count : ℕ)
    → step ≡ steps.Item found count → ⊥
refused_none step fault e found count is = cc

-- what is said of the first, and what follows
pub one_said : (n : ℕ) (f g : ℕ → Option Definition) (p p2 : Progress) (bytes : List ℕ) (item : ReadItem) (used : ℕ) (said : Option Sign)
    → HasSteady n f p bytes → 1 ≤ n → IsStep f bytes (steps.Item item used)
    → judged p (message_lent item p.clock.last) (take used bytes) ≡ option_map (λ s. judged_with s p2) said
    → g ≡ in_force_after (item_of item) f
    → (sign : Sign) × (said ≡ Some sign) × (sign ≡ Doubtful → ⊥) × HasSteady (n - 1) g p2 (drop used bytes)
one_said n f g p p2 bytes item used said has some step e g_is = go has.1 has.3 has.4
  where
    go : (row : List Sized) → n ≤ length row → IsSteady f p has.0 bytes row
        → (sign : Sign) × (said ≡ Some sign) × (sign ≡ Doubtful → ⊥) × HasSteady (n - 1) g p2 (drop used bytes)
    go [] long steady = absurd (omega (arith, long, some))
    go (one ∷ row) long steady =
        let is = first_said f g p p2 has.0 bytes one row item used said steady step e g_is in
        (is.sign, is.said_is, is.certain, (quiet_after has.0 is.sign, row, is.short, omega (arith, long), is.steady))

found_same : (a b : ReadItem) (m n : ℕ) → ◌≡◌ {A = Option (ReadItem × ℕ)} (Some (a, m)) (Some (b, n)) → (a ≡ b) × (m ≡ n)
found_same a b m n e = (ap (λ (o : Option (ReadItem × ℕ)). (found_or (a, m) o).0) e, ap (λ (o : Option (ReadItem × ℕ)). (found_or (a, m) o).1) e)
  where
    found_or : ReadItem × ℕ → Option (ReadItem × ℕ) → ReadItem × ℕ
    found_or d None = d
    found_or d (Some found) = found

-- nothing is looked at yet
pub looks_first : (signs : ℕ) (need : Need) (f : ℕ → Option Definition) (p : Progress) (bytes : List ℕ) (ahead : Ahead)
    → IsEnough signs need → HasSteady (32 * signs) f p bytes → ahead.worth ≡ 0 → ahead.idle ≡ 0 → ahead.definitions ≡ 0
    → LooksOn signs f p bytes 0 ahead
looks_first signs need f p bytes ahead enough has a b c = record {
  left = has.1;
  quiet = has.0;
  found = 0;
  steady = has.4;
  long = omega (arith, has.3);
  worth = omega arith;
  less = omega (arith, a, enough.some);
  most = omega arith;
  short = has.2;
  idle = omega (arith, b);
  definitions = omega (arith, c);
}

-- more follow
pub looks_has : (signs : ℕ) (f : ℕ → Option Definition) (p : Progress) (rest : List ℕ) (count : ℕ) (ahead : Ahead)
    → LooksOn signs f p rest count ahead → HasSteady 1 f p rest
looks_has signs f p rest count ahead l = (l.quiet, l.left, l.short, omega (arith, l.long, l.worth, l.less, l.most, l.short), l.steady)

-- not all were looked at
pub looks_few : (signs : ℕ) (need : Need) (f : ℕ → Option Definition) (p : Progress) (rest : List ℕ) (count : ℕ) (ahead : Ahead)
    → IsEnough signs need → LooksOn signs f p rest count ahead → 1000 ≤ count → ⊥
looks_few signs need f p rest count ahead enough l all =
    absurd (omega (arith, all, enough.few, l.worth, l.less, l.most, l.short))

-- one more, whatever it says
more_with : (signs : ℕ) (need : Need) (g : ℕ → Option Definition) (p : Progress) (rest : List ℕ) (count : ℕ) (ahead : Ahead)
    (row : List Sized) (quiet found size : ℕ) (sign : Sign) (is_definition : Bool) → IsEnough signs need → (sign ≡ Doubtful → ⊥)
    → quiet_after quiet sign < 32 → IsSteady g p (quiet_after quiet sign) rest row → 32 * signs ≤ count + size → size ≡ length row + 1
    → 3 * found ≤ ahead.worth → ahead.worth < 3 * signs → count ≤ 32 * found + quiet → quiet < 32 → ahead.idle ≤ quiet
    → ahead.definitions ≤ quiet → (ahead_with ahead sign is_definition need).worth < need.worth
    → LooksOn signs g p rest (count + 1) (ahead_with ahead sign is_definition need)
more_with signs need g p rest count ahead row quiet found size Doubtful is_definition enough certain short steady long is worth less most before idle definitions more =
    absurd (certain refl)
more_with signs need g p rest count ahead row quiet found size Nothing true enough certain short steady long is worth less most before idle definitions more = record {
  left = row;
  quiet = quiet + 1;
  found = found;
  steady = steady;
  long = omega (arith, long, is);
  worth = worth;
  less = less;
  most = omega (arith, most);
  short = short;
  idle = omega arith;
  definitions = omega (arith, definitions);
}
more_with signs need g p rest count ahead row quiet found size Nothing false enough certain short steady long is worth less most before idle definitions more = record {
  left = row;
  quiet = quiet + 1;
  found = found;
  steady = steady;
  long = omega (arith, long, is);
  worth = worth;
  less = less;
  most = omega (arith, most);
  short = short;
  idle = omega (arith, idle);
  definitions = omega arith;
}
more_with signs need g p rest count ahead row quiet found size Weak is_definition enough certain short steady long is worth less most before idle definitions more = record {
  left = row;
  quiet = quiet + 1;
  found = found;
  steady = steady;
  long = omega (arith, long, is);
  worth = omega (arith, worth, less, enough.few);
  less = omega (arith, more, enough.worth);
  most = omega (arith, most);
  short = short;
  idle = omega arith;
  definitions = omega arith;
}
more_with signs need g p rest count ahead row quiet found size Strong is_definition enough certain short steady long is worth less most before idle definitions more = record {
  left = row;
  quiet = 0;
  found = found + 1;
  steady = steady;
  long = omega (arith, long, is);
  worth = omega (arith, worth, less, enough.few);
  less = omega (arith, more, enough.worth);
  most = omega (arith, most, before);
  short = short;
  idle = omega arith;
  definitions = omega arith;
}

-- after a sound item neither limit is passed
within_limits : (need : Need) (ahead : Ahead) (quiet : ℕ) (sign : Sign) (is_definition : Bool) → quiet_after quiet sign < 32
    → (sign ≡ Doubtful → ⊥) → ahead.idle ≤ quiet → ahead.definitions ≤ quiet
    → ((ahead_with ahead sign is_definition need).idle ≤ 31) × ((ahead_with ahead sign is_definition need).definitions ≤ 31)
within_limits need ahead quiet Doubtful d short certain idle definitions = absurd (certain refl)
within_limits need ahead quiet Nothing true short certain idle definitions = (omega arith, omega (arith, short, definitions))
within_limits need ahead quiet Nothing false short certain idle definitions = (omega (arith, short, idle), omega arith)
within_limits need ahead quiet Weak d short certain idle definitions = (omega arith, omega arith)
within_limits need ahead quiet Strong d short certain idle definitions = (omega arith, omega arith)

-- the next item is looked at
pub record LooksAtNext (signs : ℕ) (need : Need) (g : ℕ → Option Definition) (p : Progress) (rest : List ℕ) (count : ℕ) (ahead : Ahead)
    (is_definition : Bool) (said : Option Sign) : Type 0 where
  pub sign : Sign
  pub said_is : said ≡ Some sign
  pub idle : (ahead_with ahead sign is_definition need).idle ≤ 31
  pub definitions : (ahead_with ahead sign is_definition need).definitions ≤ 31
  pub more : (ahead_with ahead sign is_definition need).worth < need.worth
      → LooksOn signs g p rest (count + 1) (ahead_with ahead sign is_definition need)

pub looks_next : (signs : ℕ) (need : Need) (f g : ℕ → Option Definition) (p p2 : Progress) (rest : List ℕ) (count : ℕ) (ahead : Ahead)
    (is_definition : Bool) (item : ReadItem) (used : ℕ) (said : Option Sign) → IsEnough signs need → LooksOn signs f p rest count ahead
    → IsStep f rest (steps.Item item used)
    → judged p (message_lent item p.clock.last) (take used rest) ≡ option_map (λ s. judged_with s p2) said
    → g ≡ in_force_after (item_of item) f → LooksAtNext signs need g p2 (drop used rest) count ahead is_definition said
looks_next signs need f g p p2 rest count ahead is_definition item used said enough l step e g_is = go l.left l.steady l.long
  where
    go : (row : List Sized) → IsSteady f p l.quiet rest row → 32 * signs ≤ count + length row
        → LooksAtNext signs need g p2 (drop used rest) count ahead is_definition said
    go [] steady long = absurd (omega (arith, long, l.worth, l.less, l.most, l.short))
    go (one ∷ row) steady long =
        let is = first_said f g p p2 l.quiet rest one row item used said steady step e g_is in
        let limits = within_limits need ahead l.quiet is.sign is_definition is.short is.certain l.idle l.definitions in
        record {
          sign = is.sign;
          said_is = is.said_is;
          idle = limits.0;
          definitions = limits.1;
          more = more_with signs need g p2 (drop used rest) count ahead row l.quiet l.found (length row + 1) is.sign is_definition enough
              is.certain is.short is.steady (omega (arith, long)) refl l.worth l.less l.most l.short l.idle l.definitions;
        }

-- the same, if it says this, and this is what was looked at then
pub record LooksAtMore (signs : ℕ) (need : Need) (g : ℕ → Option Definition) (p : Progress) (rest : List ℕ) (count : ℕ) (ahead : Ahead) : Type 0 where
  pub idle : ahead.idle ≤ 31
  pub definitions : ahead.definitions ≤ 31
  pub more : ahead.worth < need.worth → LooksOn signs g p rest (count + 1) ahead

sign_same : (a b : Sign) → Some a ≡ Some b → a ≡ b
sign_same a b e = cc

pub looks_more : (signs : ℕ) (need : Need) (f g : ℕ → Option Definition) (p p2 : Progress) (rest others : List ℕ) (count : ℕ) (ahead now : Ahead)
    (is_definition : Bool) (item : ReadItem) (used : ℕ) (said : Option Sign) (sign : Sign) (own : List ℕ) → IsEnough signs need
    → LooksOn signs f p rest count ahead → IsStep f rest (steps.Item item used)
    → judged p (message_lent item p.clock.last) own ≡ option_map (λ s. judged_with s p2) said → own ≡ take used rest → others ≡ drop used rest
    → g ≡ in_force_after (item_of item) f → said ≡ Some sign → now ≡ ahead_with ahead sign is_definition need
    → LooksAtMore signs need g p2 others count now
looks_more signs need f g p p2 rest others count ahead now is_definition item used said sign own enough l step e own_is others_is g_is said_is now_is =
    let judged_is = subst (λ (b : List ℕ). judged p (message_lent item p.clock.last) b ≡ option_map (λ s. judged_with s p2) said) own_is e in
    let next = looks_next signs need f g p p2 rest count ahead is_definition item used said enough l step judged_is g_is in
    let same : ahead_with ahead next.sign is_definition need ≡ now =
    ap (λ (s : Sign). ahead_with ahead s is_definition need) (sign_same next.sign sign (sym next.said_is ∙ said_is)) ∙ sym now_is in
    subst (λ (b : List ℕ). LooksAtMore signs need g p2 b count now) (sym others_is)
    (subst (λ (a : Ahead). LooksAtMore signs need g p2 (drop used rest) count a) same
    (record { idle = next.idle; definitions = next.definitions; more = next.more }))

pub never_none : (signs : ℕ) (need : Need) (f : ℕ → Option Definition) (p p2 : Progress) (rest : List ℕ) (count : ℕ) (ahead : Ahead)
    (item : ReadItem) (used : ℕ) (said : Option Sign) (own : List ℕ) → IsEnough signs need
    → LooksOn signs f p rest count ahead → IsStep f rest (steps.Item item used)
    → judged p (message_lent item p.clock.last) own ≡ option_map (λ s. judged_with s p2) said → own ≡ take used rest
    → ((sign : Sign) → said ≡ Some sign → ⊥) → ⊥
never_none signs need f p p2 rest count ahead item used said own enough l step e own_is none =
    let judged_is = subst (λ (b : List ℕ). judged p (message_lent item p.clock.last) b ≡ option_map (λ s. judged_with s p2) said) own_is e in
    let next = looks_next signs need f (in_force_after (item_of item) f) p p2 rest count ahead true item used said enough l step judged_is refl in
    none next.sign next.said_is

-- one item more
pub counts_one : (ahead now : Ahead) (sign : Sign) (is_definition : Bool) (need : Need) → now ≡ ahead_with ahead sign is_definition need
    → (now.idle ≤ ahead.idle + 1) × (now.definitions ≤ ahead.definitions + 1)
counts_one ahead now sign is_definition need is =
    subst (λ (a : Ahead). (a.idle ≤ ahead.idle + 1) × (a.definitions ≤ ahead.definitions + 1)) (sym is) (by sign is_definition)
  where
    by : (sign : Sign) (is_definition : Bool) → ((ahead_with ahead sign is_definition need).idle ≤ ahead.idle + 1)
        × ((ahead_with ahead sign is_definition need).definitions ≤ ahead.definitions + 1)
    by Doubtful true = (omega arith, omega arith)
    by Doubtful false = (omega arith, omega arith)
    by Nothing true = (omega arith, omega arith)
    by Nothing false = (omega arith, omega arith)
    by Weak d = (omega arith, omega arith)
    by Strong d = (omega arith, omega arith)

sum_of : (one : Sized) (row : List Sized) → row_size (one ∷ row) ≡ one.size + row_size row
sum_of one row = refl

no_sum : row_size [] ≡ 0
no_sum = refl

-- a row is within the bytes
pub row_within : (f : ℕ → Option Definition) (p : Progress) (quiet : ℕ) (bytes : List ℕ) (row last : List Sized)
    → IsSteady f p quiet bytes (row ++ last) → row_size row ≤ length bytes
row_within f p quiet bytes [] last steady = omega arith
row_within f p quiet bytes (one ∷ row) last steady =
    omega (
      arith,
      sum_of one row,
      steady.1.at.within,
      length-drop one.size bytes,
      row_within (in_force_after one.item f) steady.0.progress (quiet_after quiet steady.0.sign) (drop one.size bytes) row last steady.3,
    )

-- the next item of the row is passed too
pub passes_next : (f g : ℕ → Option Definition) (p p2 : Progress) (bytes : List ℕ) (front to : ℕ) (last : List Sized) (item : ReadItem) (used : ℕ)
    → PassesTo f p bytes front to last
    → ((quiet : ℕ) (one : Sized) (row : List Sized) → quiet < 32 → 32 ≤ length row → IsSteady f p quiet (drop front bytes) (one ∷ row)
    → PassesOne f p2 (drop front bytes) one row (Some (item, used)))
    → g ≡ in_force_after (item_of item) f → 32 ≤ length last → PassesTo g p2 bytes (front + used) to last
passes_next f g p p2 bytes front to last item used has one g_is long = λ less. go (has (omega (arith, less))) less
  where
    go : HasRowLeft f p bytes front to last → front + used < to → HasRowLeft g p2 bytes (front + used) to last
    go h less = by h.left h.steady h.size
      where
        by : (left : List Sized) → IsSteady f p h.quiet (drop front bytes) (left ++ last) → front + row_size left ≡ to
            → HasRowLeft g p2 bytes (front + used) to last
        by [] steady size = absurd (omega (arith, size, less, no_sum))
        by (first ∷ left) steady size =
            let next = one h.quiet first (left ++ last) h.short (omega (arith, length-append left last, long)) steady in
            let same = found_same item next.item used first.size next.found_is in
            record {
              left = left;
              quiet = next.quiet;
              short = next.short;
              steady = subst (λ (l : List ℕ). IsSteady g p2 next.quiet l (left ++ last))
                  (ap (λ (n : ℕ). drop n (drop front bytes)) (sym same.1) ∙ drop-drop used front bytes)
                  (subst (λ (h : ℕ → Option Definition). IsSteady h p2 next.quiet (drop first.size (drop front bytes)) (left ++ last))
                  (ap (λ (i : ReadItem). in_force_after (item_of i) f) (sym same.0) ∙ sym g_is) next.steady);
              size = omega (arith, size, same.1, sum_of first left);
            }

-- all of the row were passed where none is found
pub passes_all : (f : ℕ → Option Definition) (p p2 : Progress) (bytes : List ℕ) (front to : ℕ) (last : List Sized) (found : Option (ReadItem × ℕ))
    → PassesTo f p bytes front to last
    → ((quiet : ℕ) (one : Sized) (row : List Sized) → quiet < 32 → 32 ≤ length row → IsSteady f p quiet (drop front bytes) (one ∷ row)
    → PassesOne f p2 (drop front bytes) one row found)
    → ((item : ReadItem) (used : ℕ) → found ≡ Some (item, used) → ⊥) → 32 ≤ length last → to ≤ front
passes_all f p p2 bytes front to last found has one none long = decide (ltb front to) refl
  where
    by : (h : HasRowLeft f p bytes front to last) → front < to → (left : List Sized)
        → IsSteady f p h.quiet (drop front bytes) (left ++ last) → front + row_size left ≡ to → ⊥
    by h less [] steady size = absurd (omega (arith, size, less, no_sum))
    by h less (first ∷ left) steady size =
        let next = one h.quiet first (left ++ last) h.short (omega (arith, length-append left last, long)) steady in
        none next.item first.size next.found_is

    decide : (b : Bool) → ltb front to ≡ b → to ≤ front
    decide true is =
        let less = ltb-true front to is in
        let h = has less in
        absurd (by h less h.left h.steady h.size)
    decide false is = ltb-false front to is
