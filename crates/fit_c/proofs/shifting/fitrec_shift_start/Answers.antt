use Rattle.fit_c.proofs.shifting.fitrec_shift_start.Goals as goal

pub returns-in-Some-clause-ok : goal.returns-in-Some-clause-ok
returns-in-Some-clause-ok c = λ zero.
    let shifted = c.shift_read.ensures.ok zero in
    record {
      file = c.in-Ok.file;
      is = c.in-Ok.ensures.file;
      shift = c.in-Some.shift;
      shift_is = c.in-Some.ensures.shift;
      new = shifted.0;
      moved = shifted.1;
      shifted_is = shifted.2;
    }
