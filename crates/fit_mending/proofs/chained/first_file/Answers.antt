use Rattle.std.proofs.Common.{length, refl, arith}
use Rattle.fit_mending.proofs.Files.{file_begins}
use Rattle.fit_mending.proofs.chained.first_file.Goals as goal

pub returns-in-Err-clause-ends : goal.returns-in-Err-clause-ends
returns-in-Err-clause-ends c = record {
  within = omega arith;
  headed = λ frame size h. absurd (c.in-Err.ensures.none frame size h);
  bare = λ none. refl;
}

pub returns-in-Err-clause-whole : goal.returns-in-Err-clause-whole
returns-in-Err-clause-whole c = λ file rest v e f.
    absurd (c.in-Err.ensures.none v.frame (length f.records) (file_begins c.args.bytes.now file rest v e f))
