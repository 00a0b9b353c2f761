use Rattle.std.proofs.Common.{[]}
use Rattle.fit_files.proofs.decoding.decode_whole.Goals as goal

pub returns : goal.returns
returns c = c.finished.ensures c.args.bytes.now (c.feed.ensures.fed [] c.new-decoder.ensures)
