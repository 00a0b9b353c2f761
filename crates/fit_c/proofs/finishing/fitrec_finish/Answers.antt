use Rattle.std.proofs.Common.{◌+◌, ◌≤◌, length, arith}
use Rattle.fit_grammar.specs.Format.Encoding.{encoded}
use Rattle.fit_finishing.specs.Finished.{finished_by, most_closing, most_opening}
use Rattle.fit_c.proofs.Finished.{finished_length}
use Rattle.fit_c.proofs.finishing.fitrec_finish.Goals as goal

pub returns-in-Ok-of-clause-enough : goal.returns-in-Ok-of-clause-enough
returns-in-Ok-of-clause-enough c = λ full.
    let bytes = c.args.bytes.now in
    let new = finished_by c.in-Ok.file c.in-Ok-of.finishing in
    let long : length (encoded new) ≤ length bytes + most_opening + most_closing = finished_length bytes c.in-Ok.file c.in-Ok-of.finishing c.in-Ok.ensures.file c.in-Ok-of.ensures.finishing in
    omega (arith, long, c.write_out.ensures.needed full, c.write_out.ensures.no_room full)
