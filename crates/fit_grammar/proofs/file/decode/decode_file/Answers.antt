use Rattle.std.proofs.Common.{◌≡◌, List, [], ℕ, Result, Ok, Err, inl, inr}
use Rattle.std.specs.Prelude.{IfErr}
use Rattle.fit_grammar.specs.declared.file.fault.FaultKind.TheVariants.{Memory}
use Rattle.fit_grammar.specs.declared.file.fault.FileFault.{FileFault}
use Rattle.fit_grammar.specs.Format.File.{FileValue, FileOf}
use Rattle.fit_grammar.specs.Format.Refusal.{IsFaultOf}
use Rattle.fit_grammar.proofs.Decoding.Refused.{file_not_refused}
use Rattle.fit_grammar.proofs.Pieces.Reported.{shown_fault}
use Rattle.fit_grammar.proofs.file.decode.decode_file.Goals as goal

memory_by : (b : List ℕ) (v : FileValue) (fault : FileFault) → FileOf b v → IsFaultOf b fault → fault.kind ≡ Memory
memory_by b v fault file (inl refused) = absurd (file_not_refused b v fault.kind fault.place file refused.1)
memory_by b v fault file (inr memory) = memory.0

-- for a file, only lack of memory is reported
memory_alone : (b : List ℕ) (v : FileValue) (r : Result FileValue FileFault) → FileOf b v → IfErr r (IsFaultOf b)
    → IfErr r (λ fault. fault.kind ≡ Memory)
memory_alone b v (Ok file) is h = tt
memory_alone b v (Err fault) is h = memory_by b v fault is h

pub returns-in-Ok-clause-file : goal.returns-in-Ok-clause-file
returns-in-Ok-clause-file c = c.finish.ensures.file c.args.bytes.now (c.feed.ensures.fed [] c.new-decoder.ensures)

pub returns-in-Ok-clause-refused : goal.returns-in-Ok-clause-refused
returns-in-Ok-clause-refused c = c.finish.ensures.refused c.args.bytes.now (c.feed.ensures.fed [] c.new-decoder.ensures)

pub returns-in-Ok-clause-taken : goal.returns-in-Ok-clause-taken
returns-in-Ok-clause-taken c = λ v file. memory_alone c.args.bytes.now v c.finish.result file
    (c.finish.ensures.refused c.args.bytes.now (c.feed.ensures.fed [] c.new-decoder.ensures))

pub returns-in-Err-clause-refused : goal.returns-in-Err-clause-refused
returns-in-Err-clause-refused c =
    shown_fault c.args.bytes.now c.in-Err.fault (c.in-Err.ensures.refused [] c.new-decoder.ensures)

pub returns-in-Err-clause-taken : goal.returns-in-Err-clause-taken
returns-in-Err-clause-taken c = λ v file. memory_by c.args.bytes.now v c.in-Err.fault file
    (shown_fault c.args.bytes.now c.in-Err.fault (c.in-Err.ensures.refused [] c.new-decoder.ensures))
