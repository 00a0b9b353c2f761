use Rattle.std.proofs.Common.{◌++◌}
use Rattle.fit_grammar.proofs.file.reading.read_on.Goals as goal

pub take_bytes-requires-clause-stands : goal.take_bytes-requires-clause-stands
take_bytes-requires-clause-stands c =
    (c.requires.0 ++ c.args.bytes.now, c.add_checksum.ensures.stands c.requires.0 c.requires.1)

pub returns-in-Ok-clause-ok : goal.returns-in-Ok-clause-ok
returns-in-Ok-clause-ok c = λ fed reads.
    c.in-Ok.ensures.ok (fed ++ c.args.bytes.now) (c.add_checksum.ensures.stands fed reads)

pub returns-in-Err-clause-err : goal.returns-in-Err-clause-err
returns-in-Err-clause-err c = λ fed reads.
    rw c.fault_here.ensures (c.in-Err.ensures.err (fed ++ c.args.bytes.now) (c.add_checksum.ensures.stands fed reads))
