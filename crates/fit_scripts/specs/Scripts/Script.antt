-- Scripts: their lines, the command of each line, and the events of all of them.
use Rattle.std.specs.Prelude.{ℕ, ◌+◌, Bool, true, List, [], ◌∷◌, codes, IsSome, Option, Some, None, option_map, ◌==◌, nat_lt, if◌then◌else◌, slice_index}
use Rattle.std.specs.List.{cons_option}
use Rattle.std.specs.Option.{option_and_then, option_flatten}
use Rattle.std.specs.Str.{bytes_eq}
use Rattle.fit_activity.specs.declared.recording.start.Start.{Start}
use Rattle.fit_activity.specs.declared.recording.start.Sport.{Sport}
use Rattle.fit_activity.specs.declared.recording.start.Sport.TheVariants.{Generic, Running, Cycling}
use Rattle.fit_activity.specs.declared.recording.entry.Entry.{Entry}
use Rattle.fit_activity.specs.declared.recording.entry.Entry.TheVariants as entries
use Rattle.fit_histories.specs.declared.command.Command.{Command}
use Rattle.fit_histories.specs.declared.command.Command.TheVariants as commands
use Rattle.fit_histories.specs.declared.event.Event.{Event}
use Rattle.fit_scripts.specs.Scripts.Words.{words, decimal_number}
use Rattle.fit_scripts.specs.Scripts.Sample.{are_settings, sample_at}

-- ---- a line

-- a number of 32 bits
abbrev pub number32 : List ℕ → Option ℕ
number32 word = decimal_number 4294967295 word

-- one of 1 or more
abbrev pub count : List ℕ → Option ℕ
count word = option_and_then (λ k. if nat_lt 0 k then Some k else None) (number32 word)

abbrev pub sport_named : List ℕ → Option Sport
sport_named word =
    if bytes_eq word (codes "generic") then Some Generic
    else if bytes_eq word (codes "running") then Some Running
    else if bytes_eq word (codes "cycling") then Some Cycling
    else None

-- the command, if no word is left
abbrev pub alone : Command → List (List ℕ) → Option Command
alone command [] = Some command
alone command _ = None

-- what the only word left reads as
abbrev pub only : (List ℕ → Option ℕ) → List (List ℕ) → Option ℕ
only read (word ∷ []) = read word
only read _ = None

-- TIME SERIAL SPORT
abbrev pub start_line : List (List ℕ) → Option Start
start_line (time ∷ serial ∷ sport ∷ []) =
    option_and_then (λ t. option_and_then (λ s. option_map (λ p. record {
      time =
          t;
      serial = s;
      sport = p;
    }) (sport_named sport))
    (number32 serial)) (number32 time)
start_line _ = None

-- TIME KEY=NUMBER ..
abbrev pub sample_line : List (List ℕ) → Option Entry
sample_line [] = None
sample_line (time ∷ settings) =
    if are_settings settings
    then option_map (λ t. entries.Sample (sample_at t settings)) (number32 time) else None

-- TIME
abbrev pub entry_of : (ℕ → Entry) → List (List ℕ) → Option Command
entry_of entry arguments =
    option_map (λ time. commands.Entry (entry time)) (only number32 arguments)

-- a call that is to fail, or a power cut
abbrev pub arranged_of : List ℕ → List (List ℕ) → Option Command
arranged_of name arguments =
    if bytes_eq name (codes "fail") then option_map (λ k. commands.Fail k) (only count arguments)
    else if bytes_eq name (codes "cut") then option_map (λ k. commands.Cut k) (only count arguments)
    else if bytes_eq name (codes "power") then alone commands.Power arguments
    else None

-- a call of the recorder, or one of the above
abbrev pub called_of : List ℕ → List (List ℕ) → Option Command
called_of name arguments =
    if bytes_eq name (codes "commit") then alone commands.Commit arguments
    else if bytes_eq name (codes "restart") then alone commands.Restart arguments
    else if bytes_eq name (codes "recover") then alone commands.Recover arguments
    else if bytes_eq name (codes "reopen") then alone commands.Reopen arguments
    else if bytes_eq name (codes "erase") then alone commands.Erase arguments
    else arranged_of name arguments

-- an entry that is a time, or one of the above
abbrev pub timed_of : List ℕ → List (List ℕ) → Option Command
timed_of name arguments =
    if bytes_eq name (codes "lap") then entry_of entries.Lap arguments
    else if bytes_eq name (codes "pause") then entry_of entries.Pause arguments
    else if bytes_eq name (codes "resume") then entry_of entries.Resume arguments
    else if bytes_eq name (codes "stop") then entry_of entries.Stop arguments
    else called_of name arguments

-- the command that the words of a line state
abbrev pub command_of : List (List ℕ) → Option Command
command_of [] = None
command_of (name ∷ arguments) =
    if bytes_eq name (codes "start")
    then option_map (λ start. commands.Start start) (start_line arguments)
    else if bytes_eq name (codes "sample")
    then option_map (λ sample. commands.Entry sample) (sample_line arguments)
    else timed_of name arguments

-- ---- all lines

-- a line without words, or whose first word begins with `#`
abbrev pub is_silent : List (List ℕ) → Bool
is_silent [] = true
is_silent (word ∷ words) = slice_index word 0 == 35

-- what a line states: nothing or a command; None if it is not a line of a script
abbrev pub meaning_of : List ℕ → Option (Option Command)
meaning_of line =
    if is_silent (words line)
    then Some None else option_map (λ command. Some command) (command_of (words line))

abbrev pub IsLine : List ℕ → Type 0
IsLine line = IsSome (meaning_of line)

-- the event of the line with this number, if it states one
abbrev pub event_of : ℕ → List ℕ → Option Event
event_of decimal_number line =
    option_map (λ command. record { line = decimal_number; command = command })
    (option_flatten (meaning_of line))

-- the events of lines that are numbered from here on
abbrev pub events_of : ℕ → List (List ℕ) → List Event
events_of decimal_number [] = []
events_of decimal_number (line ∷ lines) =
    cons_option (event_of decimal_number line) (events_of (decimal_number + 1) lines)
