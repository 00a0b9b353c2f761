-- The lines of files that are chained, or stand in the image of a card.
use Rattle.std.specs.Prelude.{◌≡◌, ℕ, List, [], ◌∷◌, ◌++◌, length, Option, Some, None, codes, decimal}
use Rattle.fit_grammar.specs.declared.file.fault.FileFault.{FileFault}
use Rattle.fit_grammar.specs.Calls.FaultName.{kind_name}
use Rattle.fit_grammar.specs.Format.File.{FileValue, FileOf}
use Rattle.fit_grammar.specs.Format.Refusal.{Refusal}
use Rattle.fit_mending.specs.declared.chained.Part.{Part}

-- the line of a file of this number and this many bytes, and why it is none
abbrev pub part_line : ℕ → ℕ → Option FileFault → List ℕ
part_line number size None = decimal number ++ codes ".fit: " ++ decimal size ++ codes " bytes"
part_line number size (Some fault) =
    decimal number ++ codes ".fit: " ++ decimal size ++ codes " bytes, " ++ kind_name fault.kind
    ++ codes " at " ++ decimal fault.place

-- the bytes are a file, or this is their refusal as one
abbrev pub IsReadAs : List ℕ → Option FileFault → Type 0
IsReadAs bytes None = (file : FileValue) × FileOf bytes file
IsReadAs bytes (Some fault) = Refusal bytes fault.kind fault.place

-- the text has a line for each of these files, in order
abbrev pub AreLines : List Part → List ℕ → Type 0
AreLines [] text = text ≡ []
AreLines (part ∷ parts) text =
    (fault : Option FileFault) × (others : List ℕ) × IsReadAs part.bytes.now fault
    × (text ≡ (part_line part.number (length part.bytes.now) fault ++ codes "\n") ++ others)
    × AreLines parts others
