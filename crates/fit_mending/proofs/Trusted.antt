-- Rows that are trusted, item by item, and the first item that is no fault.
use Rattle.std.proofs.Common.{◌≡◌, ◌↔◌, ℕ, zero, suc, ◌+◌, ◌<◌, ◌≤◌, Bool, true, false, List, [], ◌∷◌, length, take, drop, Option, Some, None, refl, sym, ap, subst, ◌∙◌, arith}
use Rattle.std.specs.Prelude.{option_map, nat_lt, if◌then◌else◌}
use Rattle.std.proofs.lemmas.Bool.{ltb-true, lt-ltb}
use Rattle.fit_grammar.specs.declared.definition.Definition.{Definition}
use Rattle.fit_grammar.specs.declared.item.Item.{Item as ReadItem}
use Rattle.fit_grammar.specs.declared.item.Step.TheVariants as steps
use Rattle.fit_grammar.specs.Calls.LentMessage.{LentMessage, message_lent}
use Rattle.fit_grammar.specs.Calls.Step.{item_of, IsStep}
use Rattle.fit_grammar.specs.Calls.Table.{definition_in, in_force_after}
use Rattle.fit_mending.specs.declared.clock.Sign.{Sign}
use Rattle.fit_mending.specs.declared.clock.Sign.TheVariants.{Doubtful, Nothing, Weak, Strong}
use Rattle.fit_mending.specs.declared.progress.Progress.{Progress}
use Rattle.fit_mending.specs.declared.trial.Ahead.{Ahead}
use Rattle.fit_mending.specs.Form.{begins_item, runs_into_unwritten}
use Rattle.fit_mending.specs.Judged.{judged, judged_with}
use Rattle.fit_mending.specs.Private.Looking.{IsAtFirst, StaysSteady, quiet_if, sized}
use Rattle.fit_mending.specs.Steady.{HasSound, HasSteady, IsSteady, IsTrusted, Sized, quiet_after}
use Rattle.fit_mending.proofs.Riding.{message_same}
use Rattle.fit_mending.proofs.Steady.{first_said}

pick : (b : Bool) (n m : ℕ) → nat_lt n 32 ≡ b → ◌≡◌ {A = Option ℕ} (if b then Some n else None) (Some m) → (n ≡ m) × (n < 32)
pick true n m less e = (some_same n m e, ltb-true n 32 less)
  where
    some_same : (a b : ℕ) → ◌≡◌ {A = Option ℕ} (Some a) (Some b) → a ≡ b
    some_same a b e = cc
pick false n m less e = absurd (none_same m e)
  where
    none_same : (a : ℕ) → ◌≡◌ {A = Option ℕ} None (Some a) → ⊥
    none_same a e = cc

-- so many are after one that is certain
pub quiet_some : (quiet : ℕ) (sign : Sign) (more : ℕ) → quiet_if quiet sign ≡ Some more
    → (sign ≡ Doubtful → ⊥) × (quiet_after quiet sign ≡ more) × (quiet_after quiet sign < 32)
quiet_some quiet Doubtful more e = absurd (none_same more e)
  where
    none_same : (a : ℕ) → ◌≡◌ {A = Option ℕ} None (Some a) → ⊥
    none_same a e = cc
quiet_some quiet Nothing more e = let is = pick (nat_lt (quiet + 1) 32) (quiet + 1) more refl e in ((λ d. differs d), is.0, is.1)
  where
    differs : Nothing ≡ Doubtful → ⊥
    differs d = cc
quiet_some quiet Weak more e = let is = pick (nat_lt (quiet + 1) 32) (quiet + 1) more refl e in ((λ d. differs d), is.0, is.1)
  where
    differs : Weak ≡ Doubtful → ⊥
    differs d = cc
quiet_some quiet Strong more e = let is = pick (nat_lt 0 32) 0 more refl e in ((λ d. differs d), is.0, is.1)
  where
    differs : Strong ≡ Doubtful → ⊥
    differs d = cc

quiet_is : (n m : ℕ) → n ≡ m → n < 32 → ◌≡◌ {A = Option ℕ} (if nat_lt n 32 then Some n else None) (Some m)
quiet_is n m e less =
    ap (λ (b : Bool). if b then Some n else None) (lt-ltb n 32 less) ∙ ap (λ (k : ℕ). Some k) e

-- one that is certain has so many
quiet_certain : (quiet : ℕ) (sign : Sign) → (sign ≡ Doubtful → ⊥) → quiet_after quiet sign < 32
    → quiet_if quiet sign ≡ Some (quiet_after quiet sign)
quiet_certain quiet Doubtful certain less = absurd (certain refl)
quiet_certain quiet Nothing certain less = quiet_is (quiet + 1) (quiet + 1) refl less
quiet_certain quiet Weak certain less = quiet_is (quiet + 1) (quiet + 1) refl less
quiet_certain quiet Strong certain less = quiet_is 0 0 refl less

-- the first item is no fault
pub sound_first : (f : ℕ → Option Definition) (p p2 : Progress) (rest own : List ℕ) (item : ReadItem) (used : ℕ) (said : Option Sign) (sign : Sign)
    → IsStep f rest (steps.Item item used) → judged p (message_lent item p.clock.last) own ≡ option_map (λ s. judged_with s p2) said
    → own ≡ take used rest → said ≡ Some sign → HasSound f p rest
sound_first f p p2 rest own item used said sign step e own_is said_is = (
  sized item used,
  judged_with sign p2,
  record {
    at = step.states;
    is = ap (λ (m : Option LentMessage). judged p m (take used rest)) (message_same f p.clock.last item used step.lent)
        ∙ ap (judged p (message_lent item p.clock.last)) (sym own_is) ∙ e ∙ ap (option_map (λ s. judged_with s p2)) said_is;
  },
)

-- a trusted row begins with one
pub sound_trusted : (f : ℕ → Option Definition) (p : Progress) (bytes : List ℕ) → IsTrusted f p bytes → HasSound f p bytes
sound_trusted f p bytes trusted = go trusted.0 trusted.1 trusted.2
  where
    go : (row : List Sized) → 256 ≤ length row → IsSteady f p 31 bytes row → HasSound f p bytes
    go [] long steady = absurd (omega (arith, long))
    go (one ∷ row) long steady = (one, steady.0, record { at = steady.1.at; is = steady.1.is })

pub steady_trusted : (f : ℕ → Option Definition) (p : Progress) (bytes : List ℕ) → IsTrusted f p bytes → HasSteady 256 f p bytes
steady_trusted f p bytes trusted = (31, trusted.0, omega arith, trusted.1, trusted.2)

-- nothing was looked at
pub stays_first : (f : ℕ → Option Definition) (p : Progress) (bytes : List ℕ) → IsTrusted f p bytes ↔ StaysSteady 0 f p 31 bytes
stays_first f p bytes = ((λ t. (t.0, omega (arith, t.1), t.2)), (λ t. (t.0, omega (arith, t.1), t.2)))

-- all were looked at
pub stays_all : (f : ℕ → Option Definition) (p : Progress) (quiet : ℕ) (bytes : List ℕ) (count : ℕ) → 256 ≤ count → StaysSteady count f p quiet bytes
stays_all f p quiet bytes count all = ([], omega (arith, all), tt)

pub stays_has : (n : ℕ) (f : ℕ → Option Definition) (p : Progress) (quiet : ℕ) (rest : List ℕ) → n < 256 → quiet < 32
    → StaysSteady n f p quiet rest → HasSteady 1 f p rest
stays_has n f p quiet rest few short stays = (quiet, stays.0, short, omega (arith, stays.1, few), stays.2)

-- so it goes on with a certain item
pub stays_some : (n : ℕ) (f : ℕ → Option Definition) (p p2 : Progress) (quiet : ℕ) (rest own : List ℕ) (item : ReadItem) (used : ℕ)
    (said : Option Sign) → n < 256 → IsStep f rest (steps.Item item used)
    → judged p (message_lent item p.clock.last) own ≡ option_map (λ s. judged_with s p2) said → own ≡ take used rest
    → StaysSteady n f p quiet rest
    → (sign : Sign) × (said ≡ Some sign) × (quiet_if quiet sign ≡ Some (quiet_after quiet sign))
stays_some n f p p2 quiet rest own item used said few step e own_is stays = go stays.0 stays.1 stays.2
  where
    go : (row : List Sized) → 256 ≤ n + length row → IsSteady f p quiet rest row
        → (sign : Sign) × (said ≡ Some sign) × (quiet_if quiet sign ≡ Some (quiet_after quiet sign))
    go [] long steady = absurd (omega (arith, long, few))
    go (one ∷ row) long steady =
        let judged_is = subst (λ (b : List ℕ). judged p (message_lent item p.clock.last) b ≡ option_map (λ s. judged_with s p2) said) own_is e in
        let is = first_said f (in_force_after (item_of item) f) p p2 quiet rest one row item used said steady step judged_is refl in
        (is.sign, is.said_is, quiet_certain quiet is.sign is.certain is.short)

sign_same : (a b : Sign) → Some a ≡ Some b → a ≡ b
sign_same a b e = cc

-- and after it if it did before, and before if it does after it
pub stays_next : (n m : ℕ) (f g : ℕ → Option Definition) (p p2 : Progress) (quiet more : ℕ) (rest own others : List ℕ) (item : ReadItem) (used : ℕ)
    (said : Option Sign) (sign : Sign) → n < 256 → m ≡ n + 1 → begins_item rest ≡ true → runs_into_unwritten rest used ≡ false → IsStep f rest (steps.Item item used)
    → judged p (message_lent item p.clock.last) own ≡ option_map (λ s. judged_with s p2) said → own ≡ take used rest
    → others ≡ drop used rest → g ≡ in_force_after (item_of item) f → said ≡ Some sign → quiet_if quiet sign ≡ Some more
    → StaysSteady n f p quiet rest ↔ StaysSteady m g p2 more others
stays_next n m f g p p2 quiet more rest own others item used said sign few m_is begins whole step e own_is others_is g_is said_is more_is =
    ((λ stays. go stays.0 stays.1 stays.2), back)
  where
    judged_is : judged p (message_lent item p.clock.last) (take used rest) ≡ option_map (λ s. judged_with s p2) said
    judged_is = subst (λ (b : List ℕ). judged p (message_lent item p.clock.last) b ≡ option_map (λ s. judged_with s p2) said) own_is e

    go : (row : List Sized) → 256 ≤ n + length row → IsSteady f p quiet rest row → StaysSteady m g p2 more others
    go [] long steady = absurd (omega (arith, long, few))
    go (one ∷ row) long steady =
        let is = first_said f g p p2 quiet rest one row item used said steady step judged_is g_is in
        let now : quiet_after quiet is.sign ≡ more = ap (quiet_after quiet) (sign_same is.sign sign (sym is.said_is ∙ said_is))
        ∙ (quiet_some quiet sign more more_is).1 in (
          row,
          omega (arith, long, m_is),
          subst (λ (b : List ℕ). IsSteady g p2 more b row) (sym others_is)
              (subst (λ (q : ℕ). IsSteady g p2 q (drop used rest) row) now is.steady),
        )

    back : StaysSteady m g p2 more others → StaysSteady n f p quiet rest
    back stays =
        let quiet_now = quiet_some quiet sign more more_is in
        let here = subst (λ (b : List ℕ). IsSteady g p2 more b stays.0) others_is stays.2 in
        let there = subst (λ (q : ℕ). IsSteady g p2 q (drop used rest) stays.0) (sym quiet_now.1) here in (
          sized item used ∷ stays.0,
          omega (arith, stays.1, m_is),
          (
            judged_with sign p2,
            record {
              at = step.states;
              begins = begins;
              is = ap (λ (m : Option LentMessage). judged p m (take used rest)) (message_same f p.clock.last item used step.lent)
                  ∙ judged_is ∙ ap (option_map (λ s. judged_with s p2)) said_is;
              certain = quiet_now.0;
              whole = whole;
            },
            quiet_now.2,
            subst (λ (h : ℕ → Option Definition). IsSteady h p2 (quiet_after quiet sign) (drop used rest) stays.0) g_is there,
          ),
        )

-- the first item looked at, or a later one
pub sound_any : (own latest : List (Option Definition)) (later progress : Progress) (rest bytes : List ℕ) (ahead : Ahead) (count : ℕ)
    → (1 ≤ count → HasSound (definition_in latest) progress bytes)
    → (count ≡ 0 → IsAtFirst own latest later progress rest bytes ahead) → HasSound (definition_in own) later rest
    → HasSound (definition_in latest) progress bytes
sound_any own latest later progress rest bytes ahead zero more first has =
    let is = first refl in
    subst (λ (b : List ℕ). HasSound (definition_in latest) progress b) is.rest_is
    (subst (λ (p : Progress). HasSound (definition_in latest) p rest) is.later_is
    (subst (λ (t : List (Option Definition)). HasSound (definition_in t) later rest) is.own_is has))
sound_any own latest later progress rest bytes ahead (suc n) more first has = more (omega arith)

-- where something is asked for, an item was looked at
pub sound_asked : (own latest : List (Option Definition)) (later progress : Progress) (rest bytes : List ℕ) (ahead : Ahead) (count least : ℕ)
    → (1 ≤ count → HasSound (definition_in latest) progress bytes)
    → (count ≡ 0 → IsAtFirst own latest later progress rest bytes ahead) → 1 ≤ least → least ≤ ahead.worth
    → HasSound (definition_in latest) progress bytes
sound_asked own latest later progress rest bytes ahead zero least more first some has = absurd (omega (arith, some, has, (first refl).worth))
sound_asked own latest later progress rest bytes ahead (suc n) least more first some has = more (omega arith)

-- no gap comes before the first one
pub gap_later : (own latest : List (Option Definition)) (later progress : Progress) (rest bytes : List ℕ) (ahead : Ahead) (count : ℕ)
    → (1 ≤ count → HasSound (definition_in latest) progress bytes)
    → (count ≡ 0 → IsAtFirst own latest later progress rest bytes ahead) → 1 < ahead.gap
    → HasSound (definition_in latest) progress bytes
gap_later own latest later progress rest bytes ahead zero more first some = absurd (omega (arith, some, (first refl).gap))
gap_later own latest later progress rest bytes ahead (suc n) more first some = more (omega arith)
