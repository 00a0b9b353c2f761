-- An activity of any maker with the messages that it lacks: those of the list that its messages are heard as, without what it has.
use Rattle.std.specs.Prelude.{◌≡◌, ℕ, ◌+◌, ◌^◌, ◌<◌, ◌≤◌, Bool, true, false, List, [], ◌++◌, length, not, nat_le, count_by, Ok}
use Rattle.std.specs.List.{AllByRecursion}
use Rattle.fit_grammar.specs.Format.Item.{Item}
use Rattle.fit_grammar.specs.Format.Message.{Message, messages_of}
use Rattle.fit_grammar.specs.Format.Records.{data_size}
use Rattle.fit_grammar.specs.Format.File.{FileValue}
use Rattle.fit_grammar.specs.Calls.Extended.{with_items}
use Rattle.fit_grammar.specs.Calls.Possible.{CanBeFile}
use Rattle.fit_activity.specs.declared.activity.Summary.{Summary}
use Rattle.fit_activity.specs.Rides.Recording.{Recorded, is_sample}
use Rattle.fit_activity.specs.Files.Activity.{begins_with_file_id, is_activity_file, activity_in}
use Rattle.fit_activity.specs.Messages.MessageBytes.{speech_size}
use Rattle.fit_activity.specs.Messages.SpokenMessage.{SpokenMessage}
use Rattle.fit_finishing.specs.declared.finishing.Finishing.{Finishing}
use Rattle.fit_finishing.specs.declared.finishing.FinishFault.{FinishFault}
use Rattle.fit_finishing.specs.declared.finishing.FinishFault.TheVariants as faults
use Rattle.fit_finishing.specs.Heard.{heard}
use Rattle.fit_finishing.specs.Details.{CanBeDetailed, speech_with}
use Rattle.fit_finishing.specs.Lacking.{opening_for, closing_for, added_items}

abbrev pub list_of : List Message → List Recorded
list_of messages = (heard messages).list

abbrev pub finished_messages : List Message → List Message
finished_messages messages =
    opening_for messages (list_of messages) ++ (messages ++ closing_for messages (list_of messages))

abbrev pub has_sample : List Recorded → Bool
has_sample list = nat_le 1 (count_by is_sample list)

-- The new file is the old one with the messages that it lacks: it is an activity, and has a sample. So many entries were taken after the
-- start, and so many left out. A file that begins with a file_id has nothing added before it.
pub record Finishes (old new : FileValue) (entries refused : ℕ) : Type 0 where
  pub frame : new.frame ≡ old.frame
  pub items : (before after : List Item) × (new.items ≡ before ++ (old.items ++ after))
      × (begins_with_file_id (messages_of old.items) ≡ true → before ≡ [])
  pub possible : CanBeFile new
  pub messages : messages_of new.items ≡ finished_messages (messages_of old.items)
  pub taken : entries + 1 ≡ length (list_of (messages_of old.items))
  pub left_out : refused ≡ (heard (messages_of old.items)).left_out
  pub sampled : 1 ≤ count_by is_sample (list_of (messages_of old.items))
  pub activity : (summary : Summary) × (activity_in (messages_of new.items) ≡ Ok summary)

-- the most bytes of a file_id, and of closing messages
abbrev pub most_opening : ℕ
most_opening = 35

abbrev pub most_closing : ℕ
most_closing = 265

-- the items of those of these messages that it adds, and the file with what is added to it
abbrev pub added_by : Finishing → List SpokenMessage → List Item
added_by f speech = added_items f.lacks (speech_with f.details speech)

abbrev pub finished_by : FileValue → Finishing → FileValue
finished_by v f = with_items (added_by f f.opening) v (added_by f f.closing)

-- what is added can be written with the file
pub record FitsFile (v : FileValue) (f : Finishing) : Type 0 where
  pub opening_can : AllByRecursion CanBeDetailed f.opening
  pub opening_size : speech_size (speech_with f.details f.opening) ≤ most_opening
  pub opening_added : data_size (added_by f f.opening) ≤ most_opening
  pub closing_can : AllByRecursion CanBeDetailed f.closing
  pub closing_size : speech_size (speech_with f.details f.closing) ≤ most_closing
  pub closing_added : data_size (added_by f f.closing) ≤ most_closing
  pub room : data_size v.items + most_opening + most_closing < 2 ^ 32

-- it finishes the file; a file_id is added exactly if the first message is none
pub record IsFinishing (v : FileValue) (f : Finishing) : Type 0 where
  pub finishes : Finishes v (finished_by v f) f.taken f.left_out
  pub file_id : f.lacks.file_id ≡ not (begins_with_file_id (messages_of v.items))
  pub fits : FitsFile v f

-- it begins with a file_id of an activity, or with none
abbrev pub IsFinishable : List Message → Type 0
IsFinishable messages = begins_with_file_id messages ≡ true → is_activity_file messages ≡ true

-- why a file is not finished
abbrev pub IsNotFinished : FileValue → FinishFault → Type 0
IsNotFinished old faults.NotActivity =
    (begins_with_file_id (messages_of old.items) ≡ true)
    × (is_activity_file (messages_of old.items) ≡ false)
IsNotFinished old faults.NoSample =
    IsFinishable (messages_of old.items)
    × (count_by is_sample (list_of (messages_of old.items)) ≡ 0)
IsNotFinished old faults.TooLong =
    IsFinishable (messages_of old.items)
    × (1 ≤ count_by is_sample (list_of (messages_of old.items)))
    × (2 ^ 32 ≤ data_size old.items + most_opening + most_closing)
