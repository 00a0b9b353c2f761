-- What a subcommand did that writes a file, and which of its faults comes first.
use Rattle.std.specs.Prelude.{◌≡◌, ◌⊎◌, ℕ, List, ◌++◌, length, Option, Result, Ok, Err, codes}
use Rattle.std.specs.Borrow.{Bor}
use Rattle.std.specs.Io.KnownBytes.{Appends}
use Rattle.fit_grammar.specs.Format.Encoding.{encoded}
use Rattle.fit_grammar.specs.Format.File.{FileValue}
use Rattle.fit_grammar.specs.Format.Message.{messages_of}
use Rattle.fit_files.specs.Printed.PlainFile.{messages_text}
use Rattle.fit_places.specs.NamedFiles.{Holds, ReplacesNamed}
use Rattle.fit_commands.specs.Faults.{IsNotWritten, IsOutputReported, IsNotMade}
use Rattle.fit_commands.specs.declared.fault.Fault.{Fault}
use Rattle.fit_words.specs.declared.request.SalvageForm.{SalvageForm}
use Rattle.fit_files.specs.declared.salvage.Salvage.{Salvage}
use Rattle.fit_files.specs.declared.kept.Heard.{Heard}
use Rattle.fit_commands.specs.Reported.{IsMade, Transition}

-- These bytes were written to the file of this name. Or they were not, and it has them or what it held.
abbrev pub WritesFile : {T : Type 0} → List ℕ → Bor (List ℕ) → (List ℕ → Option (List ℕ)) → (List ℕ → Option (List ℕ)) → Result T Fault
    → Type 0
WritesFile bytes out old new (Ok done) = ReplacesNamed out.now bytes old new
WritesFile bytes out old new (Err fault) =
    IsNotWritten out fault × ((new out.now ≡ old out.now) ⊎ Holds (new out.now) bytes)

-- The same, and the text was printed. If the file was not written, nothing is; else only the output may fail.
abbrev pub WritesOut : List ℕ → List ℕ → Bor (List ℕ) → Transition → Result (Unit {0}) Fault → Type 0
WritesOut bytes text out run (Ok done) =
    WritesFile {T = Unit {0}} bytes out run.held_before run.held_after (Ok done)
    × Appends run.printed_before run.printed_after text
WritesOut bytes text out run (Err fault) =
    (WritesFile {T = Unit {0}} bytes out run.held_before run.held_after (Err fault) × (run.printed_after ≡ run.printed_before))
    ⊎ (IsOutputReported fault × ReplacesNamed out.now bytes run.held_before run.held_after)

-- The order of the faults of a subcommand that writes a file. First come those of its inputs: what it makes of them was not made, by `Makes`,
-- no file has changed, and nothing is printed. Then what was made was written, as the bytes and the text of `IsOut`, or that failed.
abbrev pub WritesRun : {V : Type 0} → (Result V Fault → Type 0) → (V → List ℕ → List ℕ → Type 0) → Bor (List ℕ) → Transition
    → Result (Unit {0}) Fault → Type 0
WritesRun {V} Makes IsOut out run result =
    ((fault : Fault) × (result ≡ Err fault) × Makes (Err fault)
    × (run.held_after ≡ run.held_before) × (run.printed_after ≡ run.printed_before))
    ⊎ ((made : V) × Makes (Ok made) × (bytes : List ℕ) × (text : List ℕ) × IsOut made bytes text
    × WritesOut bytes text out run result)

-- the line with so many messages
abbrev pub count_line : ℕ → List ℕ
count_line count = messages_text count ++ codes "\n"

-- the bytes of a file, and the number of its messages
abbrev pub IsCounted : FileValue → List ℕ → List ℕ → Type 0
IsCounted file bytes text = (bytes ≡ encoded file) × (text ≡ count_line (length (messages_of file.items)))

-- What is kept was written in this form. Or it has no such form, and no file has changed.
abbrev pub WritesForm : SalvageForm → Salvage → Bor (List ℕ) → (List ℕ → Option (List ℕ)) → (List ℕ → Option (List ℕ))
    → Result (Option Heard) Fault → Type 0
WritesForm form salvage out old new (Ok heard) =
    (bytes : List ℕ) × IsMade form salvage heard bytes × ReplacesNamed out.now bytes old new
WritesForm form salvage out old new (Err fault) =
    (IsNotMade form fault × (new ≡ old))
    ⊎ ((heard : Option Heard) × (bytes : List ℕ) × IsMade form salvage heard bytes
    × WritesFile {T = Option Heard} bytes out old new (Err fault))
