-- The faults of decoding the readable part of a file, and of its plain form.
use Rattle.std.proofs.Common.{◌≡◌, ℕ, List, Result, Ok, Err, inl, inr}
use Rattle.std.specs.Prelude.{IfErr}
use Rattle.fit_grammar.specs.declared.file.fault.FaultKind.TheVariants.{Memory}
use Rattle.fit_grammar.specs.declared.file.fault.FileFault.{FileFault}
use Rattle.fit_grammar.specs.Format.File.{FileValue, FileOf}
use Rattle.fit_grammar.specs.Format.Refusal.{IsFaultOf}
use Rattle.fit_grammar.proofs.Decoding.Refused.{file_not_refused}
use Rattle.fit_files.specs.declared.fault.ReportFault.{ReportFault}
use Rattle.fit_files.specs.declared.fault.ReportFault.TheVariants.{File, Activity, Output, Input, Plain}
use Rattle.fit_files.specs.declared.reading.ReadFault.TheVariants.{Failed, TooLarge, NoMemory}
use Rattle.fit_files.specs.declared.salvage.Salvage.{Salvage}
use Rattle.fit_files.specs.Calls.Reading.{DecodesWith}
use Rattle.fit_files.specs.Printed.PlainFile.{PlainsTo}
use Rattle.fit_files.specs.Printed.Salvaged.{saved_file, DecodesSalvage, IsNoForm}

pub decodes_salvage : (salvage : Salvage) (result : Result (FileValue × List ℕ) ReportFault) → DecodesWith (saved_file salvage) result → DecodesSalvage salvage result
decodes_salvage salvage (Ok read) is = is
decodes_salvage salvage (Err (File fault)) is = is
decodes_salvage salvage (Err (Activity fault)) is = absurd is
decodes_salvage salvage (Err Output) is = absurd is
decodes_salvage salvage (Err (Input why)) is = absurd is
decodes_salvage salvage (Err (Plain fault)) is = absurd is

-- the only fault of bytes that are a file is want of memory
memory_alone : (bytes : List ℕ) (v : FileValue) (fault : FileFault) → FileOf bytes v → IsFaultOf bytes fault → fault.kind ≡ Memory
memory_alone bytes v fault file (inl refused) = absurd (file_not_refused bytes v fault.kind fault.place file refused.1)
memory_alone bytes v fault file (inr memory) = memory.0

-- a file has a plain form, or one that would be too long, or memory was refused
pub no_form : (bytes : List ℕ) (v : FileValue) (result : Result FileValue ReportFault) → FileOf bytes v → PlainsTo bytes result → IfErr result IsNoForm
no_form bytes v (Ok plain) file is = tt
no_form bytes v (Err (File fault)) file is = memory_alone bytes v fault file is
no_form bytes v (Err (Activity fault)) file is = absurd is
no_form bytes v (Err Output) file is = absurd is
no_form bytes v (Err (Input why)) file is = absurd is
no_form bytes v (Err (Plain fault)) file is = tt

pub not_decoded : (salvage : Salvage) (v : FileValue) (fault : ReportFault) → FileOf (saved_file salvage) v → DecodesSalvage salvage (Err fault) → IsNoForm fault
not_decoded salvage v (File fault) file is = memory_alone _ v fault file is
not_decoded salvage v (Activity fault) file is = absurd is
not_decoded salvage v Output file is = absurd is
not_decoded salvage v (Input Failed) file is = absurd is
not_decoded salvage v (Input TooLarge) file is = absurd is
not_decoded salvage v (Input NoMemory) file is = tt
not_decoded salvage v (Plain fault) file is = absurd is
