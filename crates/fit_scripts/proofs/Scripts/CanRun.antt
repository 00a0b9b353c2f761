-- Each event of a script can be run: calls of the device are counted from 1.
use Rattle.std.proofs.Common.{◌≡◌, ◌+◌, ◌≤◌, ℕ, Bool, true, false, List, [], ◌∷◌, Option, Some, None, codes, nat_lt, if◌then◌else◌, All, refl}
use Rattle.std.proofs.lemmas.Bool.{ltb-true}
use Rattle.std.proofs.lemmas.List.Elements.{All-nil, All-cons}
use Rattle.std.specs.List.{cons_option}
use Rattle.std.specs.Option.{IfSome, option_and_then, option_map, option_flatten}
use Rattle.std.specs.Str.{bytes_eq}
use Rattle.fit_activity.specs.declared.recording.entry.Entry.TheVariants as entries
use Rattle.fit_histories.specs.declared.command.Command.{Command}
use Rattle.fit_histories.specs.declared.command.Command.TheVariants as commands
use Rattle.fit_histories.specs.declared.event.Event.{Event}
use Rattle.fit_histories.specs.Commands.{CanRun}
use Rattle.fit_scripts.specs.Scripts.Script.{number32, count, alone, only, start_line, sample_line, command_of, is_silent, event_of, events_of}
use Rattle.fit_scripts.specs.Scripts.Words.{words}

abbrev CanRunEvent : Event → Type 0
CanRunEvent event = CanRun event.command

either : (b : Bool) (one other : Option Command) → IfSome one CanRun → IfSome other CanRun → IfSome (if b then one else other) CanRun
either true one other can_one can_other = can_one
either false one other can_one can_other = can_other

mapped : {A : Type 0} (f : A → Command) (o : Option A) → ((x : A) → CanRun (f x)) → IfSome (option_map f o) CanRun
mapped f None can = tt
mapped f (Some x) can = can x

alone_can : (command : Command) (arguments : List (List ℕ)) → CanRun command → IfSome (alone command arguments) CanRun
alone_can command [] can = can
alone_can command (word ∷ arguments) can = tt

least : (k : ℕ) (b : Bool) → nat_lt 0 k ≡ b → IfSome (if b then Some k else None) (λ n. 1 ≤ n)
least k true is = ltb-true 0 k is
least k false is = tt

count_least : (o : Option ℕ) → IfSome (option_and_then (λ k. if nat_lt 0 k then Some k else None) o) (λ n. 1 ≤ n)
count_least None = tt
count_least (Some k) = least k (nat_lt 0 k) refl

only_count : (arguments : List (List ℕ)) → IfSome (only count arguments) (λ n. 1 ≤ n)
only_count [] = tt
only_count (word ∷ []) = count_least (number32 word)
only_count (word ∷ other ∷ arguments) = tt

counted : (f : ℕ → Command) (o : Option ℕ) → ((k : ℕ) → 1 ≤ k → CanRun (f k)) → IfSome o (λ n. 1 ≤ n) → IfSome (option_map f o) CanRun
counted f None can from_one = tt
counted f (Some k) can from_one = can k from_one

command_can : (words : List (List ℕ)) → IfSome (command_of words) CanRun
command_can [] = tt
command_can (name ∷ arguments) =
    either (bytes_eq name (codes "start")) _ _ (mapped (λ start. commands.Start start) (start_line arguments) (λ start. tt))
    (either (bytes_eq name (codes "sample")) _ _ (mapped (λ entry. commands.Entry entry) (sample_line arguments) (λ entry. tt))
    (either (bytes_eq name (codes "lap")) _ _ (mapped (λ time. commands.Entry (entries.Lap time)) (only number32 arguments) (λ time. tt))
    (either (bytes_eq name (codes "pause")) _ _ (mapped (λ time. commands.Entry (entries.Pause time)) (only number32 arguments) (λ time. tt))
    (either (bytes_eq name (codes "resume")) _ _ (mapped (λ time. commands.Entry (entries.Resume time)) (only number32 arguments) (λ time. tt))
    (either (bytes_eq name (codes "stop")) _ _ (mapped (λ time. commands.Entry (entries.Stop time)) (only number32 arguments) (λ time. tt))
    (either (bytes_eq name (codes "commit")) _ _ (alone_can commands.Commit arguments tt)
    (either (bytes_eq name (codes "restart")) _ _ (alone_can commands.Restart arguments tt)
    (either (bytes_eq name (codes "recover")) _ _ (alone_can commands.Recover arguments tt)
    (either (bytes_eq name (codes "reopen")) _ _ (alone_can commands.Reopen arguments tt)
    (either (bytes_eq name (codes "erase")) _ _ (alone_can commands.Erase arguments tt)
    (either (bytes_eq name (codes "fail")) _ _ (counted (λ k. commands.Fail k) (only count arguments) (λ k from_one. from_one) (only_count arguments))
    (either (bytes_eq name (codes "cut")) _ _ (counted (λ k. commands.Cut k) (only count arguments) (λ k from_one. from_one) (only_count arguments))
    (either (bytes_eq name (codes "power")) _ _ (alone_can commands.Power arguments tt) tt)))))))))))))

event_some : (number : ℕ) (o : Option Command) → IfSome o CanRun →
    IfSome (option_map (λ command. record { line = number; command = command }) (option_flatten (option_map (λ (command : Command). Some command) o))) CanRunEvent
event_some number None can = tt
event_some number (Some command) can = can

by_silence : (number : ℕ) (silent : Bool) (o : Option Command) → IfSome o CanRun →
    IfSome (option_map (λ command. record { line = number; command = command })
    (option_flatten (if silent then Some None else option_map (λ (command : Command). Some command) o))) CanRunEvent
by_silence number true o can = tt
by_silence number false o can = event_some number o can

event_can : (number : ℕ) (line : List ℕ) → IfSome (event_of number line) CanRunEvent
event_can number line = by_silence number (is_silent (words line)) (command_of (words line)) (command_can (words line))

joined : (o : Option Event) (events : List Event) → IfSome o CanRunEvent → All CanRunEvent events → All CanRunEvent (cons_option o events)
joined None events can all = all
joined (Some event) events can all = All-cons CanRunEvent event events can all

pub events_can : (number : ℕ) (lines : List (List ℕ)) → All (λ event. CanRun event.command) (events_of number lines)
events_can number [] = All-nil CanRunEvent
events_can number (line ∷ lines) = joined (event_of number line) (events_of (number + 1) lines) (event_can number line) (events_can (number + 1) lines)
