-- The settings and events of a script with one more word or line: for `script/sample` and `script/parse`.
use Rattle.std.proofs.Common.{Bor, ◌≡◌, ◌<◌, ◌+◌, ℕ, Bool, true, false, not, ◌&&◌, ◌||◌, List, [], ◌∷◌, ◌++◌, map, Option, Some, None, refl, ap, add-zero, arith, ◌∙◌, length, take, drop, get_or, append_assoc, subst}
use Rattle.std.proofs.lemmas.Bool.{and_from, and_left, and_right}
use Rattle.std.proofs.lemmas.List.{get_or-map, length-map, map-append, append-nil, take_more, take-append-drop}
use Rattle.std.proofs.lemmas.List.Folds.{list_all-append, list_any-append}
use Rattle.std.proofs.lemmas.Grind.{common_steps}
use Rattle.std.specs.List.{cons_option, list_all, list_any}
use Rattle.std.specs.Option.{option_or}
use Rattle.std.specs.Str.{bytes_eq}
use Rattle.fit_activity.specs.Rides.Fields.{SampleField}
use Rattle.fit_scripts.specs.Scripts.Script.{event_of, events_of}
use Rattle.fit_scripts.specs.Scripts.Sample.{key_in, setting_value, is_setting, is_new_setting, has_no_repeat, are_settings, stated_value, values_stated, number_by, stands_in, with_setting}

-- ---- references

-- the value of the reference at a place of the list
pub now_at : (items : List (Bor (List ℕ))) (i : ℕ) (d : Bor (List ℕ)) → i < length items →
    get_or (map (λ item. item.now) items) i [] ≡ (get_or items i d).now
now_at items i d within = get_or-map (λ (item : Bor (List ℕ)). item.now) items i d [] within

pub within_now : (items : List (Bor (List ℕ))) (i : ℕ) → i < length items → i < length (map (λ item. item.now) items)
within_now items i within = omega (arith, length-map items (λ (item : Bor (List ℕ)). item.now))

-- ---- settings

parted : (a b h l : Bool) → (not (a || (b || false)) && (h && not l)) ≡ ((not a && h) && not (b || l))
parted true b h l = refl
parted false true true l = refl
parted false true false l = refl
parted false false h l = refl

no_repeat_more : (keys : List (List ℕ)) (key : List ℕ) →
    has_no_repeat (keys ++ key ∷ []) ≡ (has_no_repeat keys && not (list_any (λ other. bytes_eq other key) keys))
no_repeat_more [] key = refl
no_repeat_more (other ∷ keys) key =
    rw (list_any-append (bytes_eq other) keys (key ∷ []), no_repeat_more keys key)
    (parted (list_any (bytes_eq other) keys) (bytes_eq other key) (has_no_repeat keys) (list_any (λ other. bytes_eq other key) keys))

-- a test of the value of each item
pub any_map : {X Y : Type 0} (p : Y → Bool) (f : X → Y) (xs : List X) → list_any p (map f xs) ≡ list_any (λ x. p (f x)) xs
any_map p f [] = refl
any_map p f (x ∷ xs) = ap (λ b. p (f x) || b) (any_map p f xs)

regrouped : (a r s t : Bool) → ((a && (s && true)) && (r && not t)) ≡ ((a && r) && (s && not t))
regrouped true r true t = refl
regrouped true true false t = refl
regrouped true false false t = refl
regrouped false r s t = refl

-- with one more word they are settings if and only if it is a setting with a new key
are_settings_more : (words : List (List ℕ)) (word : List ℕ) →
    are_settings (words ++ word ∷ []) ≡ (are_settings words && (is_setting word && not (stands_in (key_in word) words)))
are_settings_more words word =
    rw (
      list_all-append is_setting words (word ∷ []),
      map-append key_in words (word ∷ []),
      no_repeat_more (map key_in words) (key_in word),
      any_map (λ other. bytes_eq other (key_in word)) key_in words,
    )
    (regrouped (list_all is_setting words) (has_no_repeat (map key_in words)) (is_setting word) (stands_in (key_in word) words))

-- words that are no settings stay so whatever follows
broken_stays : (words more : List (List ℕ)) → are_settings words ≡ false → are_settings (words ++ more) ≡ false
broken_stays words [] bad = rw (append-nil words) bad
broken_stays words (word ∷ more) bad =
    let next : are_settings (words ++ word ∷ []) ≡ false = are_settings_more words word ∙ and_left _ _ bad in
    rw (← append_assoc words (word ∷ []) more) (broken_stays (words ++ word ∷ []) more next)

pub no_settings : (words : List (List ℕ)) (i : ℕ) → i < length words → is_new_setting (take i words) (get_or words i []) ≡ false →
    are_settings words ≡ false
no_settings words i within bad =
    let next : are_settings (take (i + 1) words) ≡ false =
    rw (take_more words i [] within) (are_settings_more (take i words) (get_or words i []) ∙ and_right _ _ bad) in
    subst (λ all. are_settings all ≡ false) (take-append-drop (i + 1) words) (broken_stays (take (i + 1) words) (drop (i + 1) words) next)

pub settings_more : (words : List (List ℕ)) (i : ℕ) → i < length words → are_settings (take i words) ≡ true →
    is_new_setting (take i words) (get_or words i []) ≡ true → are_settings (take (i + 1) words) ≡ true
settings_more words i within all next =
    rw (take_more words i [] within) (are_settings_more (take i words) (get_or words i []) ∙ and_from _ _ all next)

or_none : {X : Type 0} (o : Option X) → o ≡ option_or o None
or_none None = refl
or_none (Some x) = refl

or_assoc : {X : Type 0} (a b c : Option X) → option_or (option_or a b) c ≡ option_or a (option_or b c)
or_assoc None b c = refl
or_assoc (Some x) b c = refl

stated_more : {X : Type 0} (of : List ℕ → List ℕ → Option X) (words : List (List ℕ)) (word : List ℕ) →
    stated_value of (words ++ word ∷ []) ≡ option_or (of (key_in word) (setting_value word)) (stated_value of words)
stated_more of [] word = or_none _
stated_more of (other ∷ words) word =
    ap (λ o. option_or o (of (key_in other) (setting_value other))) (stated_more of words word)
    ∙ or_assoc (of (key_in word) (setting_value word)) (stated_value of words) (of (key_in other) (setting_value other))

-- the numbers of words with one more word
stated_by_more : (rows : List SampleField) (words : List (List ℕ)) (word : List ℕ) →
    values_stated rows (words ++ word ∷ []) ≡ with_setting rows (values_stated rows words) (key_in word) (setting_value word)
stated_by_more [] words word = refl
stated_by_more (row ∷ rows) words word =
    rw (stated_more (number_by row) words word, stated_by_more rows words word) refl

pub stated_next : (rows : List SampleField) (words : List (List ℕ)) (i : ℕ) → i < length words →
    values_stated rows (take (i + 1) words) ≡ with_setting rows (values_stated rows (take i words)) (key_in (get_or words i [])) (setting_value (get_or words i []))
stated_next rows words i within = rw (take_more words i [] within) (stated_by_more rows (take i words) (get_or words i []))

-- ---- events

cons_append : {X : Type 0} (o : Option X) (xs ys : List X) → cons_option o (xs ++ ys) ≡ cons_option o xs ++ ys
cons_append None xs ys = refl
cons_append (Some x) xs ys = refl

events_more : (number : ℕ) (lines : List (List ℕ)) (line : List ℕ) (last : ℕ) → last ≡ number + length lines →
    events_of number (lines ++ line ∷ []) ≡ events_of number lines ++ cons_option (event_of last line) []
events_more number [] line last is = rw (is, add-zero number) refl
events_more number (first ∷ lines) line last is =
    ap (cons_option (event_of number first)) (events_more (number + 1) lines line last (omega (arith, is)))
    ∙ cons_append (event_of number first) (events_of (number + 1) lines) (cons_option (event_of last line) [])

-- the events of lines with one more line
pub events_next : (lines : List (List ℕ)) (i : ℕ) → i < length lines →
    events_of 1 (take (i + 1) lines) ≡ events_of 1 (take i lines) ++ cons_option (event_of (i + 1) (get_or lines i [])) []
events_next lines i within =
    rw (take_more lines i [] within) (events_more 1 (take i lines) (get_or lines i []) (i + 1) (grind (arith, common_steps)))
