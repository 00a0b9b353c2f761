-- What the calls over the bytes of a file answer.
use Rattle.std.specs.Prelude.{◌≡◌, ℕ, ◌+◌, ◌<◌, ◌≤◌, ℤ, Bool, List, length, true, false, Ok, Err}
use Rattle.std.specs.Io.Iter.{u64_saturate}
use Rattle.fit_activity.specs.declared.activity.Summary.{Summary}
use Rattle.fit_activity.specs.declared.activity.ActivityFault.{ActivityFault}
use Rattle.fit_activity.specs.Files.Activity.{activity_in, activity_fault_code}
use Rattle.fit_grammar.specs.Calls.FaultCode.{kind_code}
use Rattle.fit_grammar.specs.Calls.PlainForm.{plain_of, plain_items, is_too_long}
use Rattle.fit_grammar.specs.Format.Encoding.{encoded}
use Rattle.fit_grammar.specs.declared.file.fault.FileFault.{FileFault}
use Rattle.fit_grammar.specs.Format.File.{FileValue, FileOf}
use Rattle.fit_grammar.specs.Format.Message.{messages_of}
use Rattle.fit_grammar.specs.Format.Refusal.{Refusal}
use Rattle.fit_text.specs.Json.{json_of}
use Rattle.fit_text.specs.Text.{text_of}
use Rattle.fit_columns.specs.Columns.{messages_numbered, AreColumns}
use Rattle.fit_c.specs.Repaired.{ride_summary_of}
use Rattle.fit_c.specs.declared.repairing.RideSummary.{RideSummary}

-- the bytes are no file; the code and the place are those of their refusal
pub record IsNoFile (bytes : List ℕ) (code place : ℕ) : Type 0 where
  pub fault : FileFault
  pub refusal : Refusal bytes fault.kind fault.place
  pub code_is : code ≡ kind_code fault.kind
  pub place_is : place ≡ fault.place

-- the text of a file, or its JSON
abbrev pub shown_as : (json utc : Bool) → FileValue → List ℕ
shown_as false utc file = text_of utc file
shown_as true utc file = json_of utc file

-- the bytes are a file, and this is its text or its JSON
pub record Shows (json utc : Bool) (bytes text : List ℕ) : Type 0 where
  pub file : FileValue
  pub is : FileOf bytes file
  pub text_is : text ≡ shown_as json utc file

-- the bytes are a file, and that has so many bytes, or more than 2^64 - 1, and more than there is room for
pub record NeedsRoomToShow (json utc : Bool) (bytes : List ℕ) (room needed : ℕ) : Type 0 where
  pub file : FileValue
  pub is : FileOf bytes file
  pub needed_is : needed ≡ u64_saturate (length (shown_as json utc file))
  pub short : room < length (shown_as json utc file)

-- the bytes are a file, and these are its plain form
pub record IsPlainOf (bytes plain : List ℕ) : Type 0 where
  pub file : FileValue
  pub is : FileOf bytes file
  pub plain_is : plain ≡ encoded (plain_of file)

-- the bytes are a file, whose plain form has so many bytes, more than there is room for
pub record NeedsRoomForPlain (bytes : List ℕ) (room needed : ℕ) : Type 0 where
  pub file : FileValue
  pub is : FileOf bytes file
  pub needed_is : needed ≡ length (encoded (plain_of file))
  pub short : room < needed

-- the bytes are a file, whose plain form would be too long
pub record HasNoPlainForm (bytes : List ℕ) : Type 0 where
  pub file : FileValue
  pub is : FileOf bytes file
  pub too_long : is_too_long 0 (plain_items file.items) ≡ true

-- the bytes are an activity file, and the numbers are those of its summary
pub record IsActivity (bytes : List ℕ) (numbers : RideSummary) : Type 0 where
  pub file : FileValue
  pub is : FileOf bytes file
  pub summary : Summary
  pub activity : activity_in (messages_of file.items) ≡ Ok summary
  pub sums_up : numbers ≡ ride_summary_of summary

-- the bytes are a file that is no activity; the code is ten more than that of the reason
pub record IsNoActivity (bytes : List ℕ) (code : ℕ) : Type 0 where
  pub file : FileValue
  pub is : FileOf bytes file
  pub fault : ActivityFault
  pub reason : activity_in (messages_of file.items) ≡ Err fault
  pub code_is : code ≡ 10 + activity_fault_code fault

-- the bytes are a file, and each column has the values of its field in the messages of this number, of which there are so many
pub record HasColumns (bytes : List ℕ) (message : ℕ) (fields : List ℕ) (room rows : ℕ) (out : List ℤ) : Type 0 where
  pub file : FileValue
  pub is : FileOf bytes file
  pub rows_are : rows ≡ length (messages_numbered message (messages_of file.items))
  pub fit : rows ≤ room
  pub columns : AreColumns fields room (messages_numbered message (messages_of file.items)) out

-- the bytes are a file, with so many messages of this number, more than there is room for
pub record NeedsRows (bytes : List ℕ) (message room rows : ℕ) : Type 0 where
  pub file : FileValue
  pub is : FileOf bytes file
  pub rows_are : rows ≡ length (messages_numbered message (messages_of file.items))
  pub short : room < rows
