use Rattle.fit_grammar.proofs.Pieces.Ended.{carried_reads}
use Rattle.fit_grammar.proofs.file.reading.take_on.Goals as goal

pub returns-in-Ok-None-clause-ok : goal.returns-in-Ok-None-clause-ok
returns-in-Ok-None-clause-ok c = λ b s.
    let reported = rw c.in-Ok-None.field-0-is at c.in-Ok-None.ensures in
    let carries = reported.ok b s in
    carried_reads b c.take_carried.new.reading carries.0 carries.1 carries.2
    (rw reported.same.closing c.requires.closing) reported.short
