-- What is wrong with a line that is none of a script, and with a text that is no script. The words of a line are judged from left to
-- right, a word that is missing last, and the first fault counts.
use Rattle.std.specs.Prelude.{◌≡◌, ◌≢◌, ◌<◌, ◌⊎◌, ℕ, ◌+◌, Bool, List, [], ◌∷◌, ◌++◌, length, take, codes, All, Option, Some, None, ◌||◌, ◌==◌, nat_lt, if◌then◌else◌, slice_index_or}
use Rattle.std.specs.List.{list_any, position_or_len}
use Rattle.std.specs.Str.{bytes_eq}
use Rattle.fit_activity.specs.Rides.Fields.{sample_rows}
use Rattle.fit_scripts.specs.declared.script.fault.ScriptFault.{ScriptFault}
use Rattle.fit_scripts.specs.declared.script.fault.ScriptFaultKind.{ScriptFaultKind}
use Rattle.fit_scripts.specs.declared.script.fault.ScriptFaultKind.TheVariants.{UnknownWord, MissingWord, ExtraWord, BadNumber, UnknownKey, RepeatedKey, Memory}
use Rattle.fit_scripts.specs.Scripts.Sample.{key_in, stands_in, is_new_setting}
use Rattle.fit_scripts.specs.Scripts.Script.{number32, count, sport_named, meaning_of, IsLine}
use Rattle.fit_scripts.specs.Scripts.Words.{words}

-- ---- a line

-- a word that reads as nothing has this fault; else the words after it have theirs
abbrev pub judged_word : {X : Type 0} → Option X → ScriptFaultKind → ScriptFaultKind
    → ScriptFaultKind
judged_word None fault rest = fault
judged_word (Some x) fault rest = rest

-- of words that should be one number
abbrev pub only_fault : (List ℕ → Option ℕ) → List (List ℕ) → ScriptFaultKind
only_fault read [] = MissingWord
only_fault read (word ∷ words) = judged_word (read word) BadNumber ExtraWord

-- of TIME SERIAL SPORT
abbrev pub sport_fault : List (List ℕ) → ScriptFaultKind
sport_fault [] = MissingWord
sport_fault (sport ∷ words) = judged_word (sport_named sport) UnknownWord ExtraWord

abbrev pub serial_fault : List (List ℕ) → ScriptFaultKind
serial_fault [] = MissingWord
serial_fault (serial ∷ words) = judged_word (number32 serial) BadNumber (sport_fault words)

abbrev pub start_fault : List (List ℕ) → ScriptFaultKind
start_fault [] = MissingWord
start_fault (time ∷ words) = judged_word (number32 time) BadNumber (serial_fault words)

-- whether a field of a sample has this key
abbrev pub is_key : List ℕ → Bool
is_key key = list_any (λ row. bytes_eq key row.2) sample_rows

-- whether there is a `=` in the word
abbrev pub has_equals : List ℕ → Bool
has_equals word = nat_lt (position_or_len (λ byte. byte == 61) word) (length word)

-- of a value that is no number of this key
abbrev pub value_fault : List ℕ → ScriptFaultKind
value_fault key = if is_key key then BadNumber else UnknownKey

-- of a word that is no new setting after these: without `=` it has no key
abbrev pub setting_fault : List (List ℕ) → List ℕ → ScriptFaultKind
setting_fault earlier word =
    if has_equals word
    then (if stands_in (key_in word) earlier then RepeatedKey else value_fault (key_in word))
    else UnknownKey

-- of settings, of which these came before
abbrev pub settings_fault : List (List ℕ) → List (List ℕ) → ScriptFaultKind
settings_fault earlier [] = MissingWord
settings_fault earlier (word ∷ words) =
    if is_new_setting earlier word
    then settings_fault (earlier ++ word ∷ []) words else setting_fault earlier word

-- of TIME KEY=NUMBER ..
abbrev pub sample_fault : List (List ℕ) → ScriptFaultKind
sample_fault [] = MissingWord
sample_fault (time ∷ settings) = judged_word (number32 time) BadNumber (settings_fault [] settings)

-- of a call that is to fail, or a power cut
abbrev pub arranged_fault : List ℕ → List (List ℕ) → ScriptFaultKind
arranged_fault name arguments =
    if bytes_eq name (codes "fail") || bytes_eq name (codes "cut") then only_fault count arguments
    else (if bytes_eq name (codes "power") then ExtraWord else UnknownWord)

-- of a call of the recorder, or one of the above
abbrev pub called_fault : List ℕ → List (List ℕ) → ScriptFaultKind
called_fault name arguments =
    if bytes_eq name (codes "commit") || bytes_eq name (codes "restart")
    || bytes_eq name (codes "recover")
    || bytes_eq name (codes "reopen") || bytes_eq name (codes "erase")
    then ExtraWord else arranged_fault name arguments

-- of an entry that is a time, or one of the above
abbrev pub timed_fault : List ℕ → List (List ℕ) → ScriptFaultKind
timed_fault name arguments =
    if bytes_eq name (codes "lap") || bytes_eq name (codes "pause")
    || bytes_eq name (codes "resume") || bytes_eq name (codes "stop")
    then only_fault number32 arguments else called_fault name arguments

-- of the words of a line
abbrev pub command_fault : List (List ℕ) → ScriptFaultKind
command_fault [] = MissingWord
command_fault (name ∷ arguments) =
    if bytes_eq name (codes "start") then start_fault arguments
    else if bytes_eq name (codes "sample") then sample_fault arguments
    else timed_fault name arguments

-- the line is none of a script, and this is what is wrong with it
pub record IsWrong (line : List ℕ) (kind : ScriptFaultKind) : Type 0 where
  pub no_line : meaning_of line ≡ None
  pub kind_is : kind ≡ command_fault (words line)

-- ---- all lines

-- the line with this number, counted from 1, is the first that is not a line of a script, and this is what is wrong with it
pub record IsFirstFault (lines : List (List ℕ)) (number : ℕ) (kind : ScriptFaultKind) : Type 0 where
  pub index : ℕ
  pub counted : number ≡ index + 1
  pub within : index < length lines
  pub before : All IsLine (take index lines)
  pub wrong : IsWrong (slice_index_or lines index []) kind

-- the line with this number, counted from 1, exists or is the first, and each line before it is one of a script
pub record IsReached (lines : List (List ℕ)) (number : ℕ) : Type 0 where
  pub index : ℕ
  pub counted : number ≡ index + 1
  pub within : (index ≡ 0) ⊎ (index < length lines)
  pub before : All IsLine (take index lines)

-- the fault of lines that are not a script: memory was refused at a line that was reached, or it is that of the first wrong line
abbrev pub IsScriptFaultOf : List (List ℕ) → ScriptFault → Type 0
IsScriptFaultOf lines fault =
    (fault.kind ≡ Memory → IsReached lines fault.line)
    × (fault.kind ≢ Memory → IsFirstFault lines fault.line fault.kind)
