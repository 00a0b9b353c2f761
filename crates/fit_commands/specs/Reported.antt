-- What a whole subcommand did: what it printed, and which fault it reports if it failed.
use Rattle.std.specs.Prelude.{◌≡◌, ◌⊎◌, ◌≤◌, ℕ, Bool, true, false, List, [], ◌∷◌, ◌++◌, length, map, Option, Some, None, Result, Ok, Err, OnOk, codes, decimal, if◌then◌else◌, IfErr}
use Rattle.std.specs.Borrow.{Bor}
use Rattle.std.specs.Io.KnownBytes.{Appends}
use Rattle.fit_activity.specs.declared.activity.Summary.{Summary}
use Rattle.fit_disk.specs.State.{Contents, seen_in}
use Rattle.fit_disk.specs.Story.{Story}
use Rattle.fit_grammar.specs.Calls.Output.{AppendsBeginning}
use Rattle.fit_grammar.specs.Format.File.{FileValue, FileOf}
use Rattle.fit_mending.specs.declared.chained.Part.{Part}
use Rattle.fit_mending.specs.Chained.{AreChained, AreNumbered}
use Rattle.fit_mending.specs.Known.{IsKnownBy}
use Rattle.fit_words.specs.Shown.{shown_text}
use Rattle.fit_words.specs.declared.request.SalvageForm.{SalvageForm}
use Rattle.fit_commands.specs.declared.like.Like.{Like}
use Rattle.fit_mending.specs.Found.{AreFound}
use Rattle.fit_files.specs.declared.salvage.Salvage.{Salvage}
use Rattle.fit_recordings.specs.declared.saving.SavedRide.{SavedRide}
use Rattle.fit_files.specs.declared.reading.FrontRead.{FrontRead}
use Rattle.fit_grammar.specs.Format.Encoding.{encoded}
use Rattle.fit_places.specs.NamedFiles.{ReplacesNamed}
use Rattle.fit_recorder.specs.Files.Changed.{HasChanged}
use Rattle.fit_recorder.specs.Files.Earlier.{without_last}
use Rattle.fit_recordings.specs.Rereading.{AreSumsOf}
use Rattle.fit_files.specs.Printed.Mended.{IsMended}
use Rattle.fit_files.specs.Printed.Parts.{AreLines}
use Rattle.fit_files.specs.Printed.PlainFile.{PlainsTo}
use Rattle.fit_files.specs.Printed.Kept.{IsRowOf, heard_line, kept_lines}
use Rattle.fit_recordings.specs.Repaired.{Repairs}
use Rattle.fit_files.specs.Printed.Salvaged.{IsSalvage, saved_file}
use Rattle.fit_recordings.specs.Saved.{SavesRide}
use Rattle.fit_files.specs.Printed.Summary.{summary_text}
use Rattle.fit_files.specs.Printed.Checked.{SumsUp}
use Rattle.fit_finishing.specs.declared.finishing.Finishing.{Finishing}
use Rattle.fit_finishing.specs.Finished.{IsFinishing, finished_by}
use Rattle.fit_files.specs.declared.kept.Heard.{Heard}
use Rattle.fit_files.specs.declared.kept.Kept.{Kept}
use Rattle.fit_files.specs.declared.kept.Kept.TheVariants.{Front, Pieces}
use Rattle.fit_recordings.specs.declared.repairing.FileSums.{FileSums}
use Rattle.fit_recordings.specs.declared.repairing.RepairFault.{RepairFault}
use Rattle.fit_recordings.specs.declared.repairing.RepairFault.TheVariants as repairs
use Rattle.fit_commands.specs.Faults.{IsRecordingReported, IsRepairReported, IsReportFault, IsOutputReported, IsNoLike, IsNothingKept, IsOfWhole, IsNotMade, IsNotFound, IsPartReported, IsLackReported, IsRideReported}
use Rattle.fit_commands.specs.Reading.{IsFileFault, IsRead, IsReadFront}
use Rattle.fit_commands.specs.declared.fault.Fault.{Fault}
use Rattle.fit_commands.specs.declared.fault.Fault.TheVariants as faults

-- A transition: what the file of each name holds and what is printed, before a run and after it.
pub record Transition : Type 0 where
  pub held_before : List ℕ → Option (List ℕ)
  pub held_after : List ℕ → Option (List ℕ)
  pub printed_before : Option (List ℕ)
  pub printed_after : Option (List ℕ)

-- that of these files and this output, by what they hold in each state
abbrev pub transition_of : {F O : Type 0} → (F → List ℕ → Option (List ℕ)) → F → F → (O → Option (List ℕ)) → O → O → Transition
transition_of held old new contents before after =
    record {
      held_before = held old;
      held_after = held new;
      printed_before = contents before;
      printed_after = contents after;
    }

-- `IsResult` holds of the bytes of the file of this name, which holds this, and the result, and the program's fault is one for a fault of
-- that; or the file was not opened or not read, and nothing is printed.
abbrev pub ReportsRun : {T F : Type 0} → Option (List ℕ) → Bor (List ℕ) → Option (List ℕ) → Option (List ℕ)
    → (F → Fault → Type 0)
    → (List ℕ → Result T F → Type 0) → Result T Fault → Type 0
ReportsRun {T} {F} held name old new IsReported IsResult (Ok done) =
    (bytes : List ℕ) × IsRead held bytes × IsResult bytes (Ok done)
ReportsRun {T} {F} held name old new IsReported IsResult (Err reported) =
    (IsFileFault name reported × (new ≡ old))
    ⊎ ((why : F) × IsReported why reported × (bytes : List ℕ) × IsRead held bytes
    × IsResult bytes (Err why))

-- the summary of the file of this name, which holds this; or why it is no activity, or was not opened or not read
abbrev pub SumsUpNamed : Option (List ℕ) → Bor (List ℕ) → Result Summary Fault → Type 0
SumsUpNamed held name found = ReportsRun held name None None (IsReportFault name) SumsUp found

-- nothing is printed, unless the output failed
abbrev pub PrintsNothing : Option (List ℕ) → Option (List ℕ) → Fault → Type 0
PrintsNothing old new fault = IsOutputReported fault ⊎ (new ≡ old)

-- the file of the readable part, or its plain form
pub record IsFormOf (plain : Bool) (salvage : Salvage) (file : FileValue) : Type 0 where
  pub as_it_is : plain ≡ false → FileOf (saved_file salvage) file
  pub plain_form : plain ≡ true → PlainsTo (saved_file salvage) (Ok file)

-- what was heard of it
abbrev pub heard_of : Finishing → Heard
heard_of finishing =
    record {
      taken = finishing.taken;
      left_out = finishing.left_out;
      has_new_file_id = finishing.lacks.file_id;
    }

-- the bytes of the readable part, or of its plain form
abbrev pub IsWrittenForm : Bool → Salvage → List ℕ → Type 0
IsWrittenForm false salvage bytes = bytes ≡ saved_file salvage
IsWrittenForm true salvage bytes =
    (plain : FileValue) × PlainsTo (saved_file salvage) (Ok plain) × (bytes ≡ encoded plain)

-- it is written in this form, as these bytes: as it is or as its plain form, and with the messages that it lacks if something was heard
abbrev pub IsMade : SalvageForm → Salvage → Option Heard → List ℕ → Type 0
IsMade form salvage None bytes = (form.finish ≡ false) × IsWrittenForm form.plain salvage bytes
IsMade form salvage (Some heard) bytes =
    (form.finish ≡ true) × (file : FileValue) × IsFormOf form.plain salvage file
    × (finishing : Finishing) × IsFinishing file finishing × (heard ≡ heard_of finishing)
    × (bytes ≡ encoded (finished_by file finishing))

-- what is kept of some bytes: the longest row of whole items, or what is found by going on after their faults, after what is known
abbrev pub IsKeptOf : SalvageForm → List ℕ → List ℕ → Kept → Type 0
IsKeptOf form known bytes (Front salvage) = (form.skip ≡ false) × IsSalvage form.all bytes salvage
IsKeptOf form known bytes (Pieces mended) = (form.skip ≡ true) × IsMended form.all known bytes mended

-- the name of the file whose definitions are known
abbrev pub like_name : SalvageForm → Option (Bor (List ℕ))
like_name form = if form.skip then form.like else None

-- the definitions of the file of this name, if there is one
abbrev pub IsLike : (List ℕ → Option (List ℕ)) → Option (Bor (List ℕ)) → Option Like → Type 0
IsLike held None None = Unit {0}
IsLike held (Some name) (Some like) =
    (like.name ≡ name) × (bytes : List ℕ) × IsRead (held name.now) bytes × IsKnownBy bytes like.known
IsLike held _ _ = ⊥

-- their bytes, and the line with their number
abbrev pub known_row : Option Like → List ℕ
known_row None = []
known_row (Some like) = like.known.row.items

abbrev pub count_text : List ℕ → ℕ → List ℕ
count_text name count =
    codes "definitions from " ++ (shown_text name ++ (codes ": " ++ (decimal count ++ codes "\n")))

abbrev pub like_text : Option Like → List ℕ
like_text None = []
like_text (Some like) = count_text like.name.now like.known.count

-- What is written of a damaged file, and printed: the definitions that were known, what was kept, and what was heard of that.
pub record Salvaged : Type 0 where
  pub like : Option Like
  pub kept : Kept
  pub heard : Option Heard
  pub bytes : List ℕ

-- What is kept of the readable bytes of the file of this name was found, after the definitions of a file if one was named, and put into the
-- form asked for. Or, in this order: there are no such definitions, the file was not read, nothing of it is kept, or it has no such form.
abbrev pub SalvagesNamed : SalvageForm → (List ℕ → Option (List ℕ)) → Bor (List ℕ) → Result Salvaged Fault → Type 0
SalvagesNamed form held name (Ok salvaged) =
    IsLike held (like_name form) salvaged.like
    × (read : FrontRead) × IsReadFront (held name.now) read
    × IsKeptOf form (known_row salvaged.like) read.bytes.items salvaged.kept
    × (salvage : Salvage) × IsRowOf salvaged.kept salvage
    × IsMade form salvage salvaged.heard salvaged.bytes
SalvagesNamed form held name (Err fault) =
    IsNoLike (like_name form) fault
    ⊎ ((like : Option Like) × IsLike held (like_name form) like
    × (IsFileFault name fault
    ⊎ ((read : FrontRead) × IsReadFront (held name.now) read
    × ((IsNothingKept form.skip name fault × IsOfWhole read.is_whole fault)
    ⊎ ((kept : Kept) × IsKeptOf form (known_row like) read.bytes.items kept × IsNotMade form fault)))))

-- its bytes, and the lines of what was kept, left out and heard
abbrev pub IsSalvagedOut : Salvaged → List ℕ → List ℕ → Type 0
IsSalvagedOut salvaged bytes text =
    (bytes ≡ salvaged.bytes)
    × (text ≡ (kept_lines salvaged.kept ++ heard_line salvaged.heard) ++ like_text salvaged.like)

-- a line was printed for each of these files; after an Err, for the first of them, of which the last line may be cut off
abbrev pub PrintsLines : List Part → Option (List ℕ) → Option (List ℕ)
    → Result (Unit {0}) Fault → Type 0
PrintsLines parts old new (Ok done) = (text : List ℕ) × AreLines parts text × Appends old new text
PrintsLines parts old new (Err fault) =
    (some : List Part) × (others : List Part) × (parts ≡ some ++ others)
    × (text : List ℕ) × AreLines some text × AppendsBeginning old new text

-- the files of some bytes: those that are chained in them, or with `all` those that stand in them
abbrev pub AreParts : Bool → List ℕ → List Part → Type 0
AreParts false bytes parts = AreChained bytes (map (λ part. part.bytes.now) parts) × AreNumbered 0 parts
AreParts true bytes parts = AreFound bytes 0 parts

-- without `all` they are at most 1,000
abbrev pub AreNotTooMany : Bool → List Part → Type 0
AreNotTooMany false parts = length parts ≤ 1000
AreNotTooMany true parts = Unit {0}

-- the name of a part in a folder
abbrev pub part_name : List ℕ → Part → List ℕ
part_name folder part = folder ++ (codes "/" ++ (decimal part.number ++ codes ".fit"))

-- these files were written into the folder, one after another
abbrev pub WritesParts : List ℕ → List Part → (List ℕ → Option (List ℕ)) → (List ℕ → Option (List ℕ))
    → Type 0
WritesParts folder [] old new = (name : List ℕ) → new name ≡ old name
WritesParts folder (part ∷ parts) old new =
    (mid : List ℕ → Option (List ℕ)) × ReplacesNamed (part_name folder part) part.bytes.now old mid
    × WritesParts folder parts mid new

-- The files of the bytes of the file of this name were not found: it was not read, the folder has no name, they are too many, or none.
abbrev pub IsNotSplit : Bool → Option (List ℕ) → Bor (List ℕ) → Bor (List ℕ) → Fault → Type 0
IsNotSplit all held name folder fault =
    IsFileFault name fault
    ⊎ ((bytes : List ℕ) × IsRead held bytes
    × (((folder.now ≡ []) × (fault ≡ faults.Open folder))
    ⊎ IsNotFound all fault
    ⊎ (AreParts all bytes [] × (fault ≡ faults.NoFile name))))

-- They were found, one or more, and a line printed for each that was written into the folder: after Ok for all. Or they were not, no file has
-- changed, and nothing is printed.
abbrev pub SplitsFile : Bool → Bor (List ℕ) → Bor (List ℕ) → Transition → Result (Unit {0}) Fault → Type 0
SplitsFile all name folder run result =
    ((fault : Fault) × (result ≡ Err fault) × IsNotSplit all (run.held_before name.now) name folder fault
    × (run.held_after ≡ run.held_before) × (run.printed_after ≡ run.printed_before))
    ⊎ ((bytes : List ℕ) × IsRead (run.held_before name.now) bytes × (parts : List Part) × AreParts all bytes parts
    × (1 ≤ length parts) × AreNotTooMany all parts × (1 ≤ length folder.now)
    × PrintsLines parts run.printed_before run.printed_after result
    × OnOk result (WritesParts folder.now parts run.held_before run.held_after) × IfErr result (IsPartReported folder))

-- it is the plain form of a file that holds this
abbrev pub IsFormOfFile : Option (List ℕ) → FileValue → Type 0
IsFormOfFile held plain = (bytes : List ℕ) × IsRead held bytes × PlainsTo bytes (Ok plain)

-- the plain form of the file of this name, which holds this; or why there is none, or it was not opened or not read
abbrev pub FormsNamed : Option (List ℕ) → Bor (List ℕ) → Result FileValue Fault → Type 0
FormsNamed held name made = ReportsRun held name None None (IsReportFault name) PlainsTo made

-- the line of a summary was printed
abbrev pub PrintsSummary : Option (List ℕ) → Option (List ℕ) → Type 0
PrintsSummary old new = (summary : Summary) × Appends old new (summary_text summary ++ codes "\n")

-- what a repair prints
abbrev pub ReportsRepair : Option (List ℕ) → Option (List ℕ) → Result (Unit {0}) RepairFault
    → Type 0
ReportsRepair old new (Ok done) = PrintsSummary old new
ReportsRepair old new (Err (repairs.Recorder fault)) = new ≡ old
ReportsRepair old new (Err repairs.Output) = Unit {0}

-- the two files of a recording were read from these inputs, each to its end, and held these contents
abbrev pub ReadsBoth : Option (List ℕ) → Option (List ℕ) → Contents → Type 0
ReadsBoth data_file journal_file contents =
    IsRead data_file contents.in_data × IsRead journal_file contents.in_journal

-- The two files of a folder of this name were read, and what they held was repaired, and both files read again, with these checksums. Or
-- what they held was not repaired, for the reported fault; or they were not opened or not read, and nothing is printed.
abbrev pub VerifiesFolder : Bor (List ℕ) → (Contents → Type 0) → Option (List ℕ) → Option (List ℕ)
    → Result FileSums Fault → Type 0
VerifiesFolder name WereRead old new (Ok sums) =
    (contents : Contents) × WereRead contents × (story : Story)
    × Repairs contents story old new (Ok sums)
    × AreSumsOf (seen_in story.now) sums
VerifiesFolder name WereRead old new (Err reported) =
    (IsRecordingReported name reported × (new ≡ old))
    ⊎ ((why : RepairFault) × IsRepairReported why reported × (contents : Contents)
    × WereRead contents × (story : Story)
    × Repairs {T = FileSums} contents story old new (Err why))

-- What counts of the two files of a recording: both as they are, or with `earlier` the journal without its last commit, if what that counts
-- has changed.
abbrev pub AreCounted : Bool → Contents → Contents → Type 0
AreCounted earlier contents counted =
    (counted ≡ contents)
    ⊎ ((earlier ≡ true) × HasChanged contents × (counted ≡ without_last contents))

-- it is the saved ride of these bytes of a data file and a journal
abbrev pub IsSavedRide : Bool → Contents → SavedRide → Type 0
IsSavedRide earlier contents saved =
    (counted : Contents) × AreCounted earlier contents counted × SavesRide counted (Ok saved)

-- the ride of the readable bytes of a data file and of all of a journal; or the files of the folder of this name were not read, or they have
-- no ride
abbrev pub SavesNamed : Bool → Option (List ℕ) → Option (List ℕ) → Bor (List ℕ) → Result SavedRide Fault → Type 0
SavesNamed earlier in_data in_journal folder (Ok saved) =
    (read : FrontRead) × IsReadFront in_data read
    × (journal : List ℕ) × IsRead in_journal journal
    × IsSavedRide earlier (record { in_data = read.bytes.items; in_journal = journal }) saved
SavesNamed earlier in_data in_journal folder (Err fault) =
    IsLackReported folder fault
    ⊎ ((read : FrontRead) × IsReadFront in_data read
    × (journal : List ℕ) × IsRead in_journal journal × IsRideReported read fault)

-- its file, and the line of its summary
abbrev pub IsSavedOut : SavedRide → List ℕ → List ℕ → Type 0
IsSavedOut saved bytes text =
    (bytes ≡ encoded saved.file) × (text ≡ summary_text saved.summary ++ codes "\n")
