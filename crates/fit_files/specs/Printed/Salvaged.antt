-- The readable part of a file that has no journal, and what is printed of it.
use Rattle.std.specs.Prelude.{◌≡◌, ℕ, ◌+◌, ◌-◌, Bool, ◌||◌, List, ◌++◌, length, take, drop, Result, Err, ◌==◌, if◌then◌else◌, codes, decimal}
use Rattle.fit_grammar.specs.declared.file.frame.Frame.{Frame}
use Rattle.fit_grammar.specs.declared.file.fault.FaultKind.TheVariants.{Memory}
use Rattle.fit_grammar.specs.declared.file.fault.FileFault.{FileFault}
use Rattle.fit_grammar.specs.Format.File.{FileValue}
use Rattle.fit_grammar.specs.Format.Item.{Item}
use Rattle.fit_grammar.specs.Format.Records.{Records}
use Rattle.fit_grammar.specs.Format.Refusal.{Refusal}
use Rattle.fit_grammar.specs.Calls.BeginningHeader.{BeginsWithHeader}
use Rattle.fit_grammar.specs.Calls.Framed.{framed}
use Rattle.fit_grammar.specs.Calls.LongestFront.{IsLongestFront}
use Rattle.fit_files.specs.declared.fault.ReportFault.{ReportFault}
use Rattle.fit_files.specs.declared.fault.ReportFault.TheVariants.{File, Input, Plain}
use Rattle.fit_files.specs.declared.reading.ReadFault.TheVariants.{NoMemory}
use Rattle.fit_files.specs.declared.salvage.Salvage.{Salvage}
use Rattle.fit_files.specs.Calls.Reading.{DecodesTo, DecodesWith}
use Rattle.fit_files.specs.Printed.PlainFile.{PlainsTo}

-- the bytes after a header that are looked at: all of them if `all` is set or the header gives the size 0, otherwise the first ones,
-- as many as the header gives, or as exist
abbrev pub looked_at : Bool → ℕ → List ℕ → List ℕ
looked_at all size after = if all || (size == 0) then after else take size after

-- the number of bytes after those and the two of a checksum
abbrev pub not_looked_at : Bool → ℕ → List ℕ → ℕ
not_looked_at all size after = length after - (length (looked_at all size after) + 2)

-- the header of the file that is written: the same, with 14 bytes
abbrev pub salvaged_frame : Frame → Frame
salvaged_frame frame = record frame { header_size = 14 }

-- what was found in these bytes: they begin with a header, whatever its checksum is, and the row is the longest prefix of the bytes
-- looked at that is a row of whole items
pub record IsSalvage (all : Bool) (bytes : List ℕ) (salvage : Salvage) : Type 0 where
  pub frame : Frame
  pub size : ℕ
  pub items : List Item
  pub header : BeginsWithHeader bytes frame size
  pub frame_is : salvage.frame ≡ salvaged_frame frame
  pub looked_is : salvage.looked_at ≡ length (looked_at all size (drop frame.header_size bytes))
  pub left_is : salvage.not_looked_at ≡ not_looked_at all size (drop frame.header_size bytes)
  pub longest : IsLongestFront (looked_at all size (drop frame.header_size bytes))
      (length salvage.row.now)
  pub row_is : salvage.row.now
      ≡ take (length salvage.row.now) (looked_at all size (drop frame.header_size bytes))
  pub are_records : Records salvage.row.now items

-- the bytes do not begin with a header, and this is their refusal as a file
pub record IsNotSalvaged (bytes : List ℕ) (fault : FileFault) : Type 0 where
  pub none : (frame : Frame) (size : ℕ) → BeginsWithHeader bytes frame size → ⊥
  pub refusal : Refusal bytes fault.kind fault.place

-- the file that is written
abbrev pub saved_file : Salvage → List ℕ
saved_file salvage = framed salvage.frame salvage.row.now

-- that file and the places of its items in it; or memory was refused
abbrev pub DecodesSalvage : Salvage → Result (FileValue × List ℕ) ReportFault → Type 0
DecodesSalvage salvage (Err (Input NoMemory)) = Unit {0}
DecodesSalvage salvage result = DecodesWith (saved_file salvage) result

-- that file alone
abbrev pub ReadsSalvage : Salvage → Result FileValue ReportFault → Type 0
ReadsSalvage salvage (Err (Input NoMemory)) = Unit {0}
ReadsSalvage salvage result = DecodesTo (saved_file salvage) result

-- the plain form of that file, or why there is none
abbrev pub PlainsSalvage : Salvage → Result FileValue ReportFault → Type 0
PlainsSalvage salvage (Err (Input NoMemory)) = Unit {0}
PlainsSalvage salvage result = PlainsTo (saved_file salvage) result

-- the plain form would be too long, or memory was refused
abbrev pub IsNoForm : ReportFault → Type 0
IsNoForm (File fault) = fault.kind ≡ Memory
IsNoForm (Plain fault) = Unit {0}
IsNoForm (Input NoMemory) = Unit {0}
IsNoForm _ = ⊥

-- the line with how many of the bytes looked at were kept
abbrev pub kept_text : Salvage → List ℕ
kept_text salvage =
    codes "kept " ++ decimal (length salvage.row.now) ++ codes " of " ++ decimal salvage.looked_at

-- the line with how many bytes after the end that a header gives were not looked at
abbrev pub count_left : ℕ → List ℕ
count_left count =
    codes "fitrec: " ++ decimal count
    ++ codes " bytes after the end that the header gives were not read; salvage --all reads them"

abbrev pub left_text : Salvage → List ℕ
left_text salvage = count_left salvage.not_looked_at
