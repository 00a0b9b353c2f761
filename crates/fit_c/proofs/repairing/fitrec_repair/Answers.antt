use Rattle.std.proofs.Common.{rules, take}
use Rattle.fit_c.proofs.Recovered.{repaired_of}
use Rattle.fit_c.proofs.repairing.fitrec_repair.Goals as goal

pub returns-in-Ok-clause-ok : goal.returns-in-Ok-clause-ok
returns-in-Ok-clause-ok c = λ _.
    let old = c.new-buffers.result in
    let new = c.recovered-answer.new.buffers in
    rw c.numbers.ensures (repaired_of old new c.in-Ok.found
    (take c.args.data_len.now c.args.data_bytes.now) (take c.args.journal_len.now c.args.journal_bytes.now) _ _
    c.in-Ok.ensures.decides c.in-Ok.ensures.journal c.new-buffers.ensures.data_rests c.new-buffers.ensures.journal_rests (search rules) (search rules))
