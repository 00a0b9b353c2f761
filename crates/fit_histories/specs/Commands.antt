-- Commands: the word of each, which need a disk whose failures are arranged, and which can be run.
use Rattle.std.specs.Prelude.{ℕ, ◌≤◌, Bool, true, false, List, codes}
use Rattle.fit_activity.specs.declared.recording.entry.Entry.TheVariants as entries
use Rattle.fit_histories.specs.declared.command.Command.{Command}
use Rattle.fit_histories.specs.declared.command.Command.TheVariants.{Fail, Cut, Power}
use Rattle.fit_histories.specs.declared.command.Command.TheVariants as commands

-- it needs a disk whose failures are arranged
abbrev pub is_simulated : Command → Bool
is_simulated (Fail k) = true
is_simulated (Cut k) = true
is_simulated Power = true
is_simulated _ = false

-- the word of a command in a script
abbrev pub word_of : Command → List ℕ
word_of (commands.Start start) = codes "start"
word_of (commands.Entry (entries.Sample sample)) = codes "sample"
word_of (commands.Entry (entries.Lap time)) = codes "lap"
word_of (commands.Entry (entries.Pause time)) = codes "pause"
word_of (commands.Entry (entries.Resume time)) = codes "resume"
word_of (commands.Entry (entries.Stop time)) = codes "stop"
word_of commands.Commit = codes "commit"
word_of commands.Restart = codes "restart"
word_of commands.Recover = codes "recover"
word_of commands.Reopen = codes "reopen"
word_of commands.Erase = codes "erase"
word_of (Fail k) = codes "fail"
word_of (Cut k) = codes "cut"
word_of Power = codes "power"

-- calls of the device are counted from 1
abbrev pub CanRun : Command → Type 0
CanRun (Fail k) = 1 ≤ k
CanRun (Cut k) = 1 ≤ k
CanRun _ = Unit {0}
