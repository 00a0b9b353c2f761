-- What events leave on their disk: each reply is a step of a history, and the disk is as the history allows, at each moment.
use Rattle.std.specs.Prelude.{◌≡◌, ℕ, Bool, true, false, IsTrue, List, [], ◌∷◌, ◌++◌, Option, codes}
use Rattle.std.specs.Io.KnownBytes.{Appends}
use Rattle.fit_disk.specs.Story.{Story, Throughout}
use Rattle.fit_histories.specs.declared.command.Command.{Command}
use Rattle.fit_histories.specs.declared.event.Event.{Event}
use Rattle.fit_histories.specs.declared.reply.Reply.{Reply}
use Rattle.fit_histories.specs.Histories.Claims.{Claim}
use Rattle.fit_histories.specs.Histories.Table.{History, Idle, Step, ended}
use Rattle.fit_runs.specs.Printed.ReplyLines.{line_text, lines_text}
use Rattle.fit_histories.specs.Rides.Begun.{LeavesForm, begun_after}
use Rattle.fit_histories.specs.Rides.Moments.{MayLeave}
use Rattle.fit_histories.specs.Rides.Replies.{MayReplyAll}
use Rattle.fit_histories.specs.Rides.Standing.{LeavesAllowed, outcome}

-- From `before` this reply may come to the command, and `after` is the state then. At each moment a power cut leaves what the command may
-- leave. A stop that is done and a recovery report some file.
pub record Passes (before : History) (old : Story) (command : Command) (reply : Reply)
    (after : History) (new : Story) : Type 0 where
  pub file : List ℕ
  pub step : Step before command (outcome reply file) after
  pub any_moment : Throughout (MayLeave before command) old new

-- These replies may come to these events, one after another: the files of one reply are those before the next event.
abbrev pub GoesTo : History → Story → List Event → List Reply → History → Story → Type 0
GoesTo before old [] [] after new = (after ≡ before) × (new ≡ old)
GoesTo before old (event ∷ events) (reply ∷ replies) after new =
    (next : History) × (mid : Story) × Passes before old event.command reply next mid
    × GoesTo next mid events replies after new
GoesTo before old [] (reply ∷ replies) after new = ⊥
GoesTo before old (event ∷ events) [] after new = ⊥

-- The replies came, and after the end of the recorder that runs the disk is as the history allows. A journal that one of the starts
-- began has checksums, or has none.
pub record Leaves (checked : Bool) (before : History) (old new : Story) (events : List Event)
    (replies : List Reply) : Type 0 where
  pub after : History
  pub goes : GoesTo before old events replies after new
  pub rests : LeavesAllowed (ended after) new
  pub form : begun_after false events replies ≡ true → LeavesForm checked new

-- over an honest disk, from any state without a recorder that allows the disk as it was
abbrev pub LeavesAfter : Bool → Bool → Story → Story → List Event → List Reply → Type 0
LeavesAfter checked honest old new events replies =
    IsTrue honest → (claims : List Claim) (begun : Bool) → LeavesAllowed (Idle claims begun) old
    → Leaves checked (Idle claims begun) old new events replies

-- A prefix of the events was run, and these replies may come to it. A line was printed for each reply but the last, and a prefix of the
-- last one's line.
pub record BreaksOff (checked honest : Bool) (old new : Story) (events : List Event)
    (before after : Option (List ℕ)) : Type 0 where
  pub played : List Event
  pub last : Event
  pub left : List Event
  pub begins : events ≡ played ++ last ∷ left
  pub replies : List Reply
  pub reply : Reply
  pub may : MayReplyAll false (played ++ last ∷ []) (replies ++ reply ∷ [])
  pub leaves : LeavesAfter checked honest old new (played ++ last ∷ []) (replies ++ reply ∷ [])
  pub part : List ℕ
  pub rest : List ℕ
  pub cut_short : line_text last reply ++ codes "\n" ≡ part ++ rest
  pub printed : Appends before after (lines_text played replies ++ part)
