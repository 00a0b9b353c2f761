use Rattle.std.proofs.Common.{ℕ, List, length, ap, ◌∙◌, arith}
use Rattle.std.specs.Io.Iter.{u64_saturate}
use Rattle.fit_joining.specs.JoinedItems.{joined_file}
use Rattle.fit_c.proofs.Written.{encoded_counted}
use Rattle.fit_c.proofs.joining.write_out.Goals as goal

pub returns-clause-needed : goal.returns-clause-needed
returns-clause-needed c = λ short.
    c.write_in.new.room.counted ∙ ap (λ (l : List ℕ). u64_saturate (length l)) c.write_in.ensures.file
    ∙ encoded_counted (joined_file c.args.first.now c.args.others.now) (omega (arith, c.requires.size, c.ranges.size.fits))
