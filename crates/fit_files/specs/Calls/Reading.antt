-- What is taken from an input that is read whole, or refused.
use Rattle.std.specs.Prelude.{◌≡◌, ◌≢◌, ℕ, ◌<◌, ◌≤◌, true, List, length, Option, Result, Ok, Err}
use Rattle.std.specs.Io.KnownBytes.{Consumes, IsAtEnd}
use Rattle.fit_grammar.specs.Format.File.{FileValue, FileOf}
use Rattle.fit_grammar.specs.Format.Refusal.{IsFaultOf}
use Rattle.fit_grammar.specs.Calls.Places.{ArePlaces}
use Rattle.fit_files.specs.declared.fault.ReportFault.{ReportFault}
use Rattle.fit_files.specs.declared.fault.ReportFault.TheVariants.{File, Input}
use Rattle.fit_files.specs.declared.reading.ReadFault.{ReadFault}
use Rattle.fit_files.specs.declared.reading.ReadFault.TheVariants.{TooLarge, NoMemory}
use Rattle.fit_files.specs.declared.reading.FrontRead.{FrontRead}

-- all that was left of an input was taken, at most so many bytes
abbrev pub ReadsAll : ℕ → Option (List ℕ) → Option (List ℕ) → List ℕ → Type 0
ReadsAll most old new bytes = Consumes old new bytes × IsAtEnd new × (length bytes ≤ most)

-- the first bytes of an input were taken, at most so many, up to its end if they are said to be all
abbrev pub ReadsFront : ℕ → Option (List ℕ) → Option (List ℕ) → FrontRead → Type 0
ReadsFront most old new read =
    Consumes old new read.bytes.items × (read.is_whole ≡ true → IsAtEnd new)
    × (length read.bytes.items ≤ most)

-- an input is too large if more than so many bytes were taken from it; it is refused for another reason before that
abbrev pub IsEnough : ℕ → ReadFault → ℕ → Type 0
IsEnough most TooLarge count = most < count
IsEnough most _ count = count ≤ most

-- what was taken from an input that is refused
abbrev pub Refuses : ℕ → Option (List ℕ) → Option (List ℕ) → ReadFault → Type 0
Refuses most old new fault =
    (taken : List ℕ) × Consumes old new taken × IsEnough most fault (length taken)

-- an input was read to its end, and `IsReported` holds of its bytes and the result; or it failed, or is too large
abbrev pub ReportsInput : {T : Type 0} → ℕ → Option (List ℕ) → Option (List ℕ)
    → (List ℕ → Result T ReportFault → Type 0) → Result T ReportFault → Type 0
ReportsInput most old new IsReported (Err (Input why)) = (why ≢ NoMemory) × Refuses most old new why
ReportsInput most old new IsReported result =
    (bytes : List ℕ) × ReadsAll most old new bytes × IsReported bytes result

-- the file that bytes are, or why they are not a file
abbrev pub DecodesTo : List ℕ → Result FileValue ReportFault → Type 0
DecodesTo bytes (Ok file) = FileOf bytes file
DecodesTo bytes (Err (File fault)) = IsFaultOf bytes fault
DecodesTo bytes (Err fault) = ⊥

-- the same, with the places of its items in the bytes
abbrev pub DecodesWith : List ℕ → Result (FileValue × List ℕ) ReportFault → Type 0
DecodesWith bytes (Ok read) = FileOf bytes read.0 × ArePlaces bytes read.1
DecodesWith bytes (Err (File fault)) = IsFaultOf bytes fault
DecodesWith bytes (Err fault) = ⊥
