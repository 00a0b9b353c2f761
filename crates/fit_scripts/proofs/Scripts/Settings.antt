-- The row of a key, and what a setting with it changes: for `script/sample`.
use Rattle.std.proofs.Common.{◌≡◌, ℕ, zero, suc, ◌+◌, ◌<◌, ltb, ◌||◌, Bool, true, false, not, List, [], ◌∷◌, length, map, Option, None, Some, refl, sym, ap, ◌∙◌, arith, get_or, set, if◌then◌else◌}
use Rattle.std.proofs.lemmas.Bool.{ltb-false, not-true, and_parts, and_from, and_left, and_right}
use Rattle.std.proofs.lemmas.List.{get_or-map, length-map}
use Rattle.std.proofs.lemmas.List.Quantifiers.{position-Some}
use Rattle.std.proofs.lemmas.List.Sums.{prefix_len_passes}
use Rattle.std.proofs.lemmas.Slice.Eq.{bytes_eq-Decides}
use Rattle.std.specs.List.{list_any, list_all, position, position_or_len}
use Rattle.std.specs.Option.{option_or, is_some}
use Rattle.std.specs.Str.{bytes_eq}
use Rattle.fit_base.specs.declared.base.BaseType.TheVariants.{Sint8}
use Rattle.fit_activity.specs.Rides.Fields.{SampleField, sample_rows}
use Rattle.fit_scripts.proofs.Scripts.Lines.{any_map}
use Rattle.fit_scripts.specs.Scripts.Words.{number_as}
use Rattle.fit_scripts.specs.declared.script.fault.ScriptFaultKind.TheVariants.{UnknownKey, RepeatedKey, BadNumber}
use Rattle.fit_scripts.specs.Scripts.Faults.{has_equals, is_key, setting_fault}
use Rattle.fit_scripts.specs.Scripts.Sample.{key_in, setting_value, is_setting, are_settings, is_new_setting, stands_in, stated_value, values_stated, has_no_repeat, has_number, with_setting, number_by}

-- ---- keys

left_false : (a b : Bool) → (a || b) ≡ false → a ≡ false
left_false true b e = e
left_false false b e = refl

right_false : (a b : Bool) → (a || b) ≡ false → b ≡ false
right_false true b e = absurd (cc e)
right_false false b e = e

or_no : (a : Bool) → (a || false) ≡ a
or_no true = refl
or_no false = refl

-- rows of other keys keep their values, and have no number
others_keep : (rows : List SampleField) (values : List (Option ℕ)) (key word : List ℕ) → length values ≡ length rows →
    list_any (bytes_eq key) (map (λ row. row.2) rows) ≡ false → with_setting rows values key word ≡ values
others_keep [] [] key word same none = refl
others_keep [] (value ∷ values) key word same none = absurd (omega (arith, same))
others_keep (row ∷ rows) [] key word same none = absurd (omega (arith, same))
others_keep (row ∷ rows) (value ∷ values) key word same none =
    let first : bytes_eq key row.2 ≡ false = left_false _ _ none in
    let rest : with_setting rows values key word ≡ values = others_keep rows values key word (omega (arith, same)) (right_false _ _ none) in
    rw (first, rest) refl

others_none : (rows : List SampleField) (key word : List ℕ) → list_any (bytes_eq key) (map (λ row. row.2) rows) ≡ false →
    list_any (λ row. is_some (number_by row key word)) rows ≡ false
others_none [] key word none = refl
others_none (row ∷ rows) key word none =
    let first : bytes_eq key row.2 ≡ false = left_false _ _ none in
    rw first (others_none rows key word (right_false _ _ none))

-- what the row of a key has to do with a setting
pub record Holds (rows : List SampleField) (values : List (Option ℕ)) (key word : List ℕ) (at : ℕ) (number : Option ℕ) : Type 0 where
  pub set_so : with_setting rows values key word ≡ set values at (option_or number (get_or values at None))
  pub has : list_any (λ row. is_some (number_by row key word)) rows ≡ is_some number
  pub known : list_any (λ row. bytes_eq key row.2) rows ≡ true

pub holds : (rows : List SampleField) (values : List (Option ℕ)) (key word : List ℕ) (at : ℕ) (d : SampleField) → length values ≡ length rows →
    has_no_repeat (map (λ row. row.2) rows) ≡ true → at < length rows → bytes_eq key (get_or rows at d).2 ≡ true →
    ((k : ℕ) → k < at → bytes_eq key (get_or rows k d).2 ≡ false) → Holds rows values key word at (number_as (get_or rows at d).1 word)
holds [] values key word at d same once within is before = absurd (omega (arith, within))
holds (row ∷ rows) [] key word at d same once within is before = absurd (omega (arith, same))
holds (row ∷ rows) (value ∷ values) key word zero d same once within is before =
    let key_is : key ≡ row.2 = (bytes_eq-Decides key row.2).0 is in
    let none : list_any (bytes_eq key) (map (λ row. row.2) rows) ≡ false = rw key_is (not-true _ (and_parts _ _ once).0) in
    let keep : with_setting rows values key word ≡ values = others_keep rows values key word (omega (arith, same)) none in
    let rest : list_any (λ row. is_some (number_by row key word)) rows ≡ false = others_none rows key word none in
    record { set_so = rw (is, keep) refl; has = rw (is, rest) (or_no (is_some (number_as row.1 word))); known = rw is refl }
holds (row ∷ rows) (value ∷ values) key word (suc at) d same once within is before =
    let other : bytes_eq key row.2 ≡ false = before 0 (omega arith) in
    let rest = holds rows values key word at d (omega (arith, same)) (and_parts _ _ once).1 (omega (arith, within)) is (λ k below. before (suc k) (omega (arith, below))) in
    record { set_so = rw (other, rest.set_so) refl; has = rw other rest.has; known = rw other rest.known }

-- ---- a key that no row has

none_found : (b : Bool) (n : ℕ) → (if b then Some n else None) ≡ None → b ≡ false
none_found true n e = cc
none_found false n e = refl

none_in : {X : Type 0} (p : X → Bool) (xs : List X) (d : X) → ((k : ℕ) → k < length xs → p (get_or xs k d) ≡ false) → list_any p xs ≡ false
none_in p [] d all = refl
none_in p (x ∷ xs) d all = rw (all 0 (omega arith)) (none_in p xs d (λ k below. all (suc k) (omega (arith, below))))

absent : {X : Type 0} (p : X → Bool) (xs : List X) → position p xs ≡ None → list_any p xs ≡ false
absent p [] e = refl
absent p (x ∷ xs) e =
    let past = ltb-false _ _ (none_found _ (position_or_len p (x ∷ xs)) e) in
    none_in p (x ∷ xs) x (λ k below. not-true _ (prefix_len_passes (λ x. not (p x)) (x ∷ xs) k x (omega (arith, past, below))))

-- ---- the settings before

-- a setting whose key no row has is none
pub no_setting : (key word : List ℕ) → is_key key ≡ false → list_any (λ row. is_some (number_by row key word)) sample_rows ≡ false
no_setting key word none = others_none sample_rows key word (any_map (bytes_eq key) (λ row. row.2) sample_rows ∙ none)

-- in settings, no word has a key that no row has
pub unknown : (words : List (List ℕ)) (key : List ℕ) → list_all is_setting words ≡ true → is_key key ≡ false → stands_in key words ≡ false
unknown [] key all none = refl
unknown (word ∷ words) key all none =
    let parts = and_parts _ _ all in
    rw (unknown words key parts.1 none) (by (bytes_eq (key_in word) key) refl)
  where
    by : (b : Bool) → bytes_eq (key_in word) key ≡ b → (bytes_eq (key_in word) key || false) ≡ false
    by false e = rw e refl
    by true e =
        let same : key_in word ≡ key = (bytes_eq-Decides (key_in word) key).0 e in
        absurd (cc (sym (and_parts _ _ all).0 ∙ no_setting (key_in word) (setting_value word) (rw same none)))

some_or : (a b : Option ℕ) → is_some (option_or a b) ≡ (is_some b || is_some a)
some_or None None = refl
some_or None (Some n) = refl
some_or (Some m) None = refl
some_or (Some m) (Some n) = refl

-- the row of a key: the first that has it
pub record IsRowOf (key : List ℕ) (at : ℕ) (d : SampleField) : Type 0 where
  pub within : at < length sample_rows
  pub is : bytes_eq key (get_or sample_rows at d).2 ≡ true
  pub before : (k : ℕ) → k < at → bytes_eq key (get_or sample_rows k d).2 ≡ false

pub row_holds : (values : List (Option ℕ)) (key word : List ℕ) (at : ℕ) (d : SampleField) → length values ≡ 11 → IsRowOf key at d →
    Holds sample_rows values key word at (number_as (get_or sample_rows at d).1 word)
row_holds values key word at d same row = holds sample_rows values key word at d same refl row.within row.is row.before

-- a setting has a number for the row of a key if and only if that is its key
own_number : (key : List ℕ) (at : ℕ) (d : SampleField) (word : List ℕ) → IsRowOf key at d → is_setting word ≡ true →
    is_some (number_by (get_or sample_rows at d) (key_in word) (setting_value word)) ≡ bytes_eq (key_in word) key
own_number key at d word row setting = by (bytes_eq (key_in word) key) refl
  where
    by : (b : Bool) → bytes_eq (key_in word) key ≡ b →
        is_some (number_by (get_or sample_rows at d) (key_in word) (setting_value word)) ≡ bytes_eq (key_in word) key
    by true e =
        let same : key_in word ≡ key = (bytes_eq-Decides (key_in word) key).0 e in
        let found : IsRowOf (key_in word) at d = rw same row in
        rw (e, found.is) (sym (row_holds (values_stated sample_rows []) (key_in word) (setting_value word) at d refl found).has ∙ setting)
    by false e =
        let key_is : key ≡ (get_or sample_rows at d).2 = (bytes_eq-Decides key _).0 row.is in
        let other : bytes_eq (key_in word) (get_or sample_rows at d).2 ≡ false = ap (bytes_eq (key_in word)) (sym key_is) ∙ e in
        rw (other, e) refl

stated_there : (key : List ℕ) (at : ℕ) (d : SampleField) (words : List (List ℕ)) → IsRowOf key at d → list_all is_setting words ≡ true →
    is_some (stated_value (number_by (get_or sample_rows at d)) words) ≡ stands_in key words
stated_there key at d [] row all = refl
stated_there key at d (word ∷ words) row all =
    let own = own_number key at d word row (and_parts _ _ all).0 in
    let rest = stated_there key at d words row (and_parts _ _ all).1 in
    some_or _ _ ∙ ap (λ b. b || is_some (stated_value (number_by (get_or sample_rows at d)) words)) own ∙ ap (λ b. bytes_eq (key_in word) key || b) rest

-- a row has a value if and only if one of the words has its key
pub value_stands : (key : List ℕ) (at : ℕ) (d : SampleField) (words : List (List ℕ)) → IsRowOf key at d → are_settings words ≡ true →
    is_some (get_or (values_stated sample_rows words) at None) ≡ stands_in key words
value_stands key at d words row are =
    ap is_some (get_or-map (λ row. stated_value (number_by row) words) sample_rows at d None row.within) ∙ stated_there key at d words row (and_parts _ _ are).0

-- ---- the row that is found

pub some_row : SampleField
some_row = (0, Sint8, [])

pub row_found : (key : List ℕ) (at : ℕ) → position (λ row. bytes_eq key row.2) sample_rows ≡ Some at → IsRowOf key at some_row
row_found key at e =
    let found = position-Some (λ (row : SampleField). bytes_eq key row.2) sample_rows at some_row e in
    record { within = found.0; is = found.1; before = found.2 }

pub row_absent : (key : List ℕ) → position (λ row. bytes_eq key row.2) sample_rows ≡ None → is_key key ≡ false
row_absent key e = absent (λ (row : SampleField). bytes_eq key row.2) sample_rows e

-- a place among the values of the items
length_map : {X Y : Type 0} (p : Y → Bool) (f : X → Y) (xs : List X) → position_or_len p (map f xs) ≡ position_or_len (λ x. p (f x)) xs
length_map p f [] = refl
length_map p f (x ∷ xs) = ap (λ n. if not (p (f x)) then 1 + n else 0) (length_map p f xs)

pub position_map : {X Y : Type 0} (p : Y → Bool) (f : X → Y) (xs : List X) → position p (map f xs) ≡ position (λ x. p (f x)) xs
position_map p f xs =
    ap (λ n. if ltb n (length (map f xs)) then Some n else None) (length_map p f xs)
    ∙ ap (λ l. if ltb (position_or_len (λ x. p (f x)) xs) l then Some (position_or_len (λ x. p (f x)) xs) else None) (length-map xs f)

pub none_of : {X : Type 0} (o : Option X) → ((x : X) → o ≡ Some x → ⊥) → o ≡ None
none_of None not = refl
none_of (Some x) not = absurd (not x refl)

-- ---- what is said of a setting, by its key

module _ (words : List (List ℕ)) (setting key : List ℕ) (key_is : key ≡ key_in setting) (parts : has_equals setting ≡ true) where
  pub unknown_key : are_settings words ≡ true → is_key key ≡ false → (is_new_setting words setting ≡ false) × (UnknownKey ≡ setting_fault words setting)
  unknown_key are none =
      let own : is_key (key_in setting) ≡ false = ap is_key (sym key_is) ∙ none in
      (and_left _ _ (no_setting (key_in setting) (setting_value setting) own), rw (parts, unknown words (key_in setting) (and_parts _ _ are).0 own, own) refl)

  pub repeated_key : stands_in key words ≡ true → (is_new_setting words setting ≡ false) × (RepeatedKey ≡ setting_fault words setting)
  repeated_key stands =
      let own : stands_in (key_in setting) words ≡ true = ap (λ k. stands_in k words) (sym key_is) ∙ stands in
      (and_right _ _ (ap not own), rw (parts, own) refl)

  module _ (value : List ℕ) (value_is : value ≡ setting_value setting) (new : stands_in key words ≡ false) where
    pub bad_number : is_key key ≡ true → has_number key value ≡ false → (is_new_setting words setting ≡ false) × (BadNumber ≡ setting_fault words setting)
    bad_number known none =
        let own : stands_in (key_in setting) words ≡ false = ap (λ k. stands_in k words) (sym key_is) ∙ new in
        let there : is_key (key_in setting) ≡ true = ap is_key (sym key_is) ∙ known in
        let bad : is_setting setting ≡ false = ap (λ k. has_number k (setting_value setting)) (sym key_is) ∙ ap (has_number key) (sym value_is) ∙ none in
        (and_left _ _ bad, rw (parts, own, there) refl)

    pub new_setting : has_number key value ≡ true → is_new_setting words setting ≡ true
    new_setting has =
        let own : stands_in (key_in setting) words ≡ false = ap (λ k. stands_in k words) (sym key_is) ∙ new in
        and_from _ _ (ap (λ k. has_number k (setting_value setting)) (sym key_is) ∙ ap (has_number key) (sym value_is) ∙ has) (ap not own)
