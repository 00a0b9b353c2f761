use Rattle.std.proofs.Common.{ap, ◌∙◌, w64}
use Rattle.std.proofs.lemmas.Int.{to_z-of_z}
use Rattle.fit_c.specs.Shifted.{shift_of}
use Rattle.fit_c.proofs.shifting.fitrec_shift.Goals as goal

pub returns-in-Ok-clause-ok : goal.returns-in-Ok-clause-ok
returns-in-Ok-clause-ok c = λ zero.
    let shifted = c.shift_read.ensures.ok zero in
    record {
      file = c.in-Ok.file;
      is = c.in-Ok.ensures.file;
      shift = c.shift_of.result;
      shift_is = c.shift_of.ensures ∙ ap shift_of (to_z-of_z w64 c.args.seconds c.ranges.seconds);
      new = shifted.0;
      moved = shifted.1;
      shifted_is = shifted.2;
    }
