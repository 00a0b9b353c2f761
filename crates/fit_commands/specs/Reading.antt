-- What was read of a file, and the program's faults for one that was not read.
use Rattle.std.specs.Prelude.{◌≡◌, ℕ, List, ◌++◌, Option, codes, decimal, if◌then◌else◌}
use Rattle.std.specs.Str.{bytes_eq}
use Rattle.std.specs.Borrow.{Bor}
use Rattle.fit_files.specs.declared.reading.ReadFault.{ReadFault}
use Rattle.fit_files.specs.declared.reading.ReadFault.TheVariants.{Failed, TooLarge, NoMemory}
use Rattle.fit_files.specs.declared.reading.FrontRead.{FrontRead}
use Rattle.fit_files.specs.Calls.Reading.{ReadsAll, ReadsFront, Refuses}
use Rattle.fit_commands.specs.declared.fault.Fault.{Fault}
use Rattle.fit_commands.specs.declared.fault.Fault.TheVariants as faults
use Rattle.fit_words.specs.Shown.{shown_text}

-- all bytes of a file that holds this, if that is known, were read
abbrev pub IsRead : Option (List ℕ) → List ℕ → Type 0
IsRead held bytes = (left : Option (List ℕ)) × ReadsAll 268435456 held left bytes

-- its bytes up to its end, or to the first place that could not be read
abbrev pub IsReadFront : Option (List ℕ) → FrontRead → Type 0
IsReadFront held read = (left : Option (List ℕ)) × ReadsFront 268435456 held left read

-- what the file of this name holds, or standard input gives if it is `-`
abbrev pub held_or_given : List ℕ → Option (List ℕ) → Option (List ℕ) → Option (List ℕ)
held_or_given name held given = if bytes_eq name (codes "-") then given else held

-- the program's fault for an input of this name
abbrev pub fault_of_read : Bor (List ℕ) → ReadFault → Fault
fault_of_read name Failed = faults.Read name
fault_of_read name TooLarge = faults.TooLarge
fault_of_read name NoMemory = faults.NoMemory

-- the line on where the reading of an input of this name ended
abbrev pub end_text : List ℕ → ℕ → List ℕ
end_text name at =
    codes "fitrec: " ++ shown_text name ++ codes " could not be read from byte " ++ decimal at
    ++ codes " on\n"

-- the input was refused, and this is the program's fault for it
abbrev pub IsReadFault : ℕ → Option (List ℕ) → Option (List ℕ) → Bor (List ℕ) → Fault → Type 0
IsReadFault most old new name fault =
    (why : ReadFault) × Refuses most old new why × (fault ≡ fault_of_read name why)

-- the faults of a file of this name that was not opened or not read
abbrev pub IsFileFault : Bor (List ℕ) → Fault → Type 0
IsFileFault name (faults.Open other) = other ≡ name
IsFileFault name (faults.Read other) = other ≡ name
IsFileFault name (faults.Write other) = ⊥
IsFileFault name faults.TooLarge = Unit {0}
IsFileFault name faults.NoMemory = Unit {0}
IsFileFault name (faults.File fault) = ⊥
IsFileFault name (faults.NotLike other fault) = ⊥
IsFileFault name (faults.NotPart other fault) = ⊥
IsFileFault name (faults.OtherSport other) = ⊥
IsFileFault name (faults.Overlap other) = ⊥
IsFileFault name (faults.Plain fault) = ⊥
IsFileFault name faults.NoTime = ⊥
IsFileFault name (faults.TimeTooFar place) = ⊥
IsFileFault name (faults.Activity fault) = ⊥
IsFileFault name faults.NoSample = ⊥
IsFileFault name (faults.Script fault) = ⊥
IsFileFault name (faults.OnlySimulate line) = ⊥
IsFileFault name (faults.Recorder fault) = ⊥
IsFileFault name (faults.NothingSaved lack) = ⊥
IsFileFault name faults.Changed = ⊥
IsFileFault name (faults.BodyNotRead at) = ⊥
IsFileFault name (faults.NoFile other) = ⊥
IsFileFault name (faults.TooManyFiles count) = ⊥
IsFileFault name faults.TooManyHeaders = ⊥
IsFileFault name (faults.Refused count) = ⊥
