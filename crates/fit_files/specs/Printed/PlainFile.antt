-- The plain form of the file that bytes are, and what is printed of it.
use Rattle.std.specs.Prelude.{◌≡◌, ℕ, List, ◌++◌, Result, Ok, Err, codes, decimal}
use Rattle.std.specs.List.{AllByRecursion}
use Rattle.fit_grammar.specs.Format.Message.{messages_of}
use Rattle.fit_grammar.specs.Format.File.{FileValue, FileOf}
use Rattle.fit_grammar.specs.Format.Refusal.{IsFaultOf}
use Rattle.fit_grammar.specs.Calls.PlainForm.{plain_of, IsPlain, IsPlainFaultOf}
use Rattle.fit_files.specs.declared.fault.ReportFault.{ReportFault}
use Rattle.fit_files.specs.declared.fault.ReportFault.TheVariants as faults

-- the plain form of a file has the same messages, and none of its items has a compressed timestamp
pub record IsPlainForm (v plain : FileValue) : Type 0 where
  pub plain_is : plain ≡ plain_of v
  pub messages : messages_of plain.items ≡ messages_of v.items
  pub written_out : AllByRecursion IsPlain plain.items

-- the plain form of the file that bytes are, or why there is none
abbrev pub PlainsTo : List ℕ → Result FileValue ReportFault → Type 0
PlainsTo bytes (Ok plain) = (v : FileValue) × FileOf bytes v × IsPlainForm v plain
PlainsTo bytes (Err (faults.File fault)) = IsFaultOf bytes fault
PlainsTo bytes (Err (faults.Plain fault)) =
    (v : FileValue) × FileOf bytes v × IsPlainFaultOf bytes v fault
PlainsTo bytes (Err fault) = ⊥

-- the line with the number of messages
abbrev pub messages_text : ℕ → List ℕ
messages_text count = codes "messages " ++ decimal count
