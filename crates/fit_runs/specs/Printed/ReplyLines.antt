-- The lines with the replies to events.
use Rattle.std.specs.Prelude.{◌≡◌, ℕ, false, List, [], ◌∷◌, ◌++◌, Option, codes, decimal}
use Rattle.std.specs.Io.KnownBytes.{Appends}
use Rattle.fit_histories.specs.declared.event.Event.{Event}
use Rattle.fit_histories.specs.declared.reply.Reply.{Reply}
use Rattle.fit_histories.specs.declared.reply.Reply.TheVariants.{Done, Stopped, Recovered, Refused, NoRecorder}
use Rattle.fit_recorder.specs.Calls.FaultName.{fault_name}
use Rattle.fit_histories.specs.Commands.{word_of}
use Rattle.fit_histories.specs.Rides.Replies.{MayReplyAll, refusals}
use Rattle.fit_files.specs.Printed.Summary.{summary_text}

abbrev pub reply_text : Reply → List ℕ
reply_text Done = codes "ok"
reply_text Stopped = codes "ok"
reply_text (Recovered summary) = summary_text summary
reply_text (Refused fault) = fault_name fault
reply_text NoRecorder = codes "NoRecorder"

-- the number of the event's line, its word, and the reply
abbrev pub line_text : Event → Reply → List ℕ
line_text event reply =
    decimal event.line ++ codes " " ++ word_of event.command ++ codes ": " ++ reply_text reply

-- a line for each event, with its end
abbrev pub lines_text : List Event → List Reply → List ℕ
lines_text [] replies = []
lines_text (event ∷ events) [] = []
lines_text (event ∷ events) (reply ∷ replies) =
    (line_text event reply ++ codes "\n") ++ lines_text events replies

-- Replies that may come to these events if no recorder runs before them, and for which `Known` holds, were printed, a line for each
-- event. So many of them are refusals.
pub record AreReported (events : List Event) (Known : List Reply → Type 0) (refused : ℕ)
    (old new : Option (List ℕ)) : Type 0 where
  pub replies : List Reply
  pub may : MayReplyAll false events replies
  pub known : Known replies
  pub counted : refused ≡ refusals replies
  pub printed : Appends old new (lines_text events replies)
