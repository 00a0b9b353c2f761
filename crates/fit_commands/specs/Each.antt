-- What is printed of each of several files.
use Rattle.std.specs.Prelude.{◌≡◌, ◌≢◌, ◌⊎◌, ℕ, ◌+◌, ◌<◌, List, [], ◌∷◌, ◌++◌, map, Result, Ok, Err, codes, Option, Bool, true, false, Some}
use Rattle.std.specs.Borrow.{Bor}
use Rattle.std.specs.Io.KnownBytes.{Appends}
use Rattle.fit_activity.specs.declared.activity.Summary.{Summary}
use Rattle.fit_grammar.specs.Calls.Output.{AppendsBeginning}
use Rattle.std.specs.List.{flat_map}
use Rattle.fit_grammar.specs.Format.File.{FileValue, FileOf}
use Rattle.fit_table.specs.declared.layout.Layout.{Layout}
use Rattle.fit_table.specs.Cells.{byte_cell}
use Rattle.fit_table.specs.Table.{head_of}
use Rattle.fit_table.specs.Tokens.{WritesTokens}
use Rattle.fit_files.specs.Exports.Checked.{checked_json}
use Rattle.fit_files.specs.Exports.Tabled.{tabled}
use Rattle.fit_files.specs.declared.fault.ReportFault.{ReportFault}
use Rattle.fit_words.specs.Shown.{shown_text}
use Rattle.fit_files.specs.Printed.Summary.{summary_text}
use Rattle.fit_commands.specs.Reading.{IsRead}
use Rattle.fit_commands.specs.Reported.{SumsUpNamed}
use Rattle.fit_commands.specs.declared.fault.Fault.{Fault}
use Rattle.fit_commands.specs.declared.fault.Fault.TheVariants as faults

-- a line on the file of this name
abbrev pub named_line : List ℕ → List ℕ → List ℕ → List ℕ
named_line front name text = front ++ (shown_text name ++ (codes ": " ++ (text ++ codes "\n")))

-- standard input, which lists names, was not read, the output failed, or memory was refused
abbrev pub IsStopped : Fault → Type 0
IsStopped (faults.Read name) = name.now ≡ codes "-"
IsStopped (faults.Write name) = name.now ≡ codes "-"
IsStopped faults.TooLarge = Unit {0}
IsStopped faults.NoMemory = Unit {0}
IsStopped _ = ⊥

-- what was found of the file of a name
pub record FoundFile : Type 0 where
  pub name : Bor (List ℕ)
  pub found : Result Summary Fault

abbrev pub name_of : FoundFile → List ℕ
name_of file = file.name.now

-- its line, or its object on a line if `json` is set, has its summary, or why it has none
abbrev pub IsFoundLine : (json : Bool) → List ℕ → Result Summary Fault → List ℕ → Type 0
IsFoundLine false name (Ok summary) line = line ≡ named_line [] name (summary_text summary)
IsFoundLine false name (Err fault) line = (text : List ℕ) × (line ≡ named_line [] name text)
IsFoundLine true name (Ok summary) line = line ≡ checked_json name (Ok summary)
IsFoundLine true name (Err fault) line =
    (text : Bor (List ℕ)) × (line ≡ checked_json name (Err text))

-- whether it counts as refused
abbrev pub refused_by : Result Summary Fault → ℕ
refused_by (Ok summary) = 0
refused_by (Err fault) = 1

-- each of these files was summed up, the text has a line for each, in order, and so many were refused
abbrev pub AreFoundLines : (json : Bool) → (List ℕ → Option (List ℕ)) → List FoundFile → List ℕ → ℕ → Type 0
AreFoundLines json held [] text refused = (text ≡ []) × (refused ≡ 0)
AreFoundLines json held (file ∷ files) text refused =
    (line : List ℕ) × (others : List ℕ) × (more : ℕ)
    × SumsUpNamed (held file.name.now) file.name file.found
    × IsFoundLine json file.name.now file.found line × (text ≡ line ++ others)
    × (refused ≡ refused_by file.found + more) × AreFoundLines json held files others more

-- The lines of the files of these names were printed, and so many refused. After an Err those of the first of them, of which the last may
-- be cut off.
abbrev pub ChecksAll : (json : Bool) → (List ℕ → Option (List ℕ)) → List (List ℕ) → Option (List ℕ)
    → Option (List ℕ) → Result ℕ Fault → Type 0
ChecksAll json held names old new (Ok refused) =
    (files : List FoundFile) × (text : List ℕ) × (map name_of files ≡ names)
    × AreFoundLines json held files text refused × Appends old new text
ChecksAll json held names old new (Err fault) =
    (files : List FoundFile) × (others : List (List ℕ)) × (text : List ℕ) × (refused : ℕ)
    × (names ≡ map name_of files ++ others) × AreFoundLines json held files text refused
    × AppendsBeginning old new text

-- These are the names that some words stand for: each word itself, but for `-`, which stands for any names.
abbrev pub AreNamesOf : List (List ℕ) → List (List ℕ) → Type 0
AreNamesOf [] names = names ≡ []
AreNamesOf (word ∷ words) names =
    (own : List (List ℕ)) × (more : List (List ℕ)) × (names ≡ own ++ more)
    × (word ≢ codes "-" → own ≡ word ∷ []) × AreNamesOf words more

-- The lines of all files that these words name were printed, and none was refused, or the fault has the number of those that were. After
-- another fault those of the first of them, of which the last may be cut off.
abbrev pub ChecksEach : (json : Bool) → (List ℕ → Option (List ℕ)) → List (List ℕ) → Option (List ℕ)
    → Option (List ℕ) → Result (Unit {0}) Fault → Type 0
ChecksEach json held words old new (Ok done) =
    (names : List (List ℕ)) × AreNamesOf words names × ChecksAll json held names old new (Ok 0)
ChecksEach json held words old new (Err fault) =
    (IsStopped fault × (new ≡ old))
    ⊎ ((names : List (List ℕ)) × AreNamesOf words names
    × (((refused : ℕ) × (fault ≡ faults.Refused refused) × (0 < refused)
    × ChecksAll json held names old new (Ok refused))
    ⊎ (IsStopped fault × ChecksAll json held names old new (Err fault))))

-- ---- tables

-- a name as the first cell of a line, with its comma
abbrev pub name_cell : List ℕ → List ℕ
name_cell name = codes "\"" ++ flat_map (byte_cell true) name ++ codes "\","

-- the lines of the table of the file of this name, which holds this, were written, or the file is left out; after an Err they are cut off
abbrev pub AddsTable : Layout → Option (List ℕ) → List ℕ → Option (List ℕ) → Option (List ℕ) → Result Bool Fault
    → Type 0
AddsTable layout held name old new (Ok true) =
    (bytes : List ℕ) × IsRead held bytes × (file : FileValue) × FileOf bytes file
    × WritesTokens {T = Unit {0}} {E = ReportFault} old new (Ok (tt {0}))
    (tabled layout (Some (name_cell name)) file)
AddsTable layout held name old new (Ok false) = new ≡ old
AddsTable layout held name old new (Err fault) =
    (new ≡ old)
    ⊎ ((bytes : List ℕ) × IsRead held bytes × (file : FileValue) × FileOf bytes file × (why : ReportFault)
    × WritesTokens {T = Unit {0}} {E = ReportFault} old new (Err why)
    (tabled layout (Some (name_cell name)) file))

-- the same of the files of these names, one after another, so many of which are left out
abbrev pub left_out_by : Bool → ℕ
left_out_by true = 0
left_out_by false = 1

abbrev pub AddsTables : Layout → (List ℕ → Option (List ℕ)) → List (List ℕ) → Option (List ℕ) → Option (List ℕ) → ℕ
    → Type 0
AddsTables layout held [] old new left_out = (new ≡ old) × (left_out ≡ 0)
AddsTables layout held (name ∷ names) old new left_out =
    (mid : Option (List ℕ)) × (added : Bool) × (more : ℕ)
    × AddsTable layout (held name) name old mid (Ok added)
    × (left_out ≡ left_out_by added + more) × AddsTables layout held names mid new more

-- all of them; after an Err the first ones, and the next one cut off
abbrev pub TablesAll : Layout → (List ℕ → Option (List ℕ)) → List (List ℕ) → Option (List ℕ) → Option (List ℕ)
    → Result ℕ Fault → Type 0
TablesAll layout held names old new (Ok left_out) = AddsTables layout held names old new left_out
TablesAll layout held names old new (Err fault) =
    (some : List (List ℕ)) × (name : List ℕ) × (others : List (List ℕ)) × (mid : Option (List ℕ))
    × (left_out : ℕ) × (names ≡ some ++ name ∷ others) × AddsTables layout held some old mid left_out
    × AddsTable layout (held name) name mid new (Err fault)

-- The first line and those of the files that these words name were written, and none is left out, or the fault has the number of those that
-- are. After another fault it is cut off.
abbrev pub TablesEach : Layout → (List ℕ → Option (List ℕ)) → List (List ℕ) → Option (List ℕ)
    → Option (List ℕ) → Result (Unit {0}) Fault → Type 0
TablesEach layout held words old new (Ok done) =
    (names : List (List ℕ)) × AreNamesOf words names × (mid : Option (List ℕ))
    × Appends old mid (head_of layout (codes "file,")) × TablesAll layout held names mid new (Ok 0)
TablesEach layout held words old new (Err fault) =
    (IsStopped fault × ((new ≡ old) ⊎ AppendsBeginning old new (head_of layout (codes "file,"))))
    ⊎ ((names : List (List ℕ)) × AreNamesOf words names × (mid : Option (List ℕ))
    × Appends old mid (head_of layout (codes "file,"))
    × (((left_out : ℕ) × (fault ≡ faults.Refused left_out) × (0 < left_out)
    × TablesAll layout held names mid new (Ok left_out))
    ⊎ (IsStopped fault × TablesAll layout held names mid new (Err fault))))
