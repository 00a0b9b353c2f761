use Rattle.std.proofs.Common.{rules}
use Rattle.fit_c.proofs.Kept.{taken_of}
use Rattle.fit_c.proofs.skipping.take_pieces.Goals as goal

pub returns : goal.returns
returns c =
    let taken = c.take_in.ensures.taken in
    taken_of c.args.seen.now c.args.looked.now c.take_in.new.room _ taken.0 taken.1 taken.2 c.requires.small (search rules)
