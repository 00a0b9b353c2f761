use Rattle.std.proofs.Common.{[]}
use Rattle.fit_shifting.proofs.bytes.shift_bytes.Goals as goal

pub shift_read-requires-clause-file : goal.shift_read-requires-clause-file
shift_read-requires-clause-file c = c.in-Ok.ensures.file c.args.bytes.now (c.feed.ensures.fed [] c.new-decoder.ensures)

pub shift_read-requires-clause-places : goal.shift_read-requires-clause-places
shift_read-requires-clause-places c = c.in-Ok.ensures.places c.args.bytes.now (c.feed.ensures.fed [] c.new-decoder.ensures)

pub returns-in-Err : goal.returns-in-Err
returns-in-Err c = c.in-Err.ensures.refused c.args.bytes.now (c.feed.ensures.fed [] c.new-decoder.ensures)
