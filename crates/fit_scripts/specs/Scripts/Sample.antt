-- A sample in a script: its time, and then words KEY=NUMBER in any order. No key appears twice.
use Rattle.std.specs.Prelude.{ℕ, Bool, true, List, [], ◌∷◌, map, Option, None, ◌==◌, ◌&&◌, not, if◌then◌else◌}
use Rattle.std.specs.List.{before_first, after_first, list_all, list_any}
use Rattle.std.specs.Option.{is_some, option_or}
use Rattle.std.specs.Str.{bytes_eq}
use Rattle.fit_activity.specs.declared.recording.entry.Sample.{Sample}
use Rattle.fit_base.specs.declared.base.BaseType.{BaseType}
use Rattle.fit_activity.specs.Rides.Fields.{SampleField, sample_rows}
use Rattle.fit_activity.specs.Rides.Table.{of_raw}
use Rattle.fit_scripts.specs.Scripts.Words.{number_as}

-- the part of a word before its first `=`, and the part after it
abbrev pub key_in : List ℕ → List ℕ
key_in word = before_first (λ byte. byte == 61) word

abbrev pub setting_value : List ℕ → List ℕ
setting_value word = after_first (λ byte. byte == 61) word

-- the number that a value states for a row, if the key is that of the row
abbrev pub number_for : BaseType → List ℕ → List ℕ → List ℕ → Option ℕ
number_for base name key value = if bytes_eq key name then number_as base value else None

abbrev pub number_by : SampleField → List ℕ → List ℕ → Option ℕ
number_by row key value = number_for row.1 row.2 key value

-- whether this is one of the keys, with a number in the range of its field
abbrev pub has_number : List ℕ → List ℕ → Bool
has_number key value = list_any (λ row. is_some (number_by row key value)) sample_rows

abbrev pub is_setting : List ℕ → Bool
is_setting word = has_number (key_in word) (setting_value word)

abbrev pub has_no_repeat : List (List ℕ) → Bool
has_no_repeat [] = true
has_no_repeat (key ∷ keys) = not (list_any (bytes_eq key) keys) && has_no_repeat keys

-- the words are settings of a sample
abbrev pub are_settings : List (List ℕ) → Bool
are_settings words = list_all is_setting words && has_no_repeat (map key_in words)

-- the number that the words state, or none; the last word that states one counts
abbrev pub stated_value : {X : Type 0} → (List ℕ → List ℕ → Option X) → List (List ℕ) → Option X
stated_value of [] = None
stated_value of (word ∷ words) =
    option_or (stated_value of words) (of (key_in word) (setting_value word))

-- the number that the words state for each row
abbrev pub values_stated : List SampleField → List (List ℕ) → List (Option ℕ)
values_stated rows words = map (λ row. stated_value (number_by row) words) rows

-- the sample that the words are settings of
abbrev pub sample_at : ℕ → List (List ℕ) → Sample
sample_at time words = of_raw time (values_stated sample_rows words)

-- ---- for the calls

-- whether one of the words has this key
abbrev pub stands_in : List ℕ → List (List ℕ) → Bool
stands_in key words = list_any (λ word. bytes_eq (key_in word) key) words

-- whether this is a setting with a key that none of these words has
abbrev pub is_new_setting : List (List ℕ) → List ℕ → Bool
is_new_setting words word = is_setting word && not (stands_in (key_in word) words)

-- the values of rows, with the number of one more setting
abbrev pub with_setting : List SampleField → List (Option ℕ) → List ℕ → List ℕ → List (Option ℕ)
with_setting [] values key value = []
with_setting (row ∷ rows) [] key value = []
with_setting (row ∷ rows) (old ∷ values) key value =
    option_or (number_by row key value) old ∷ with_setting rows values key value
