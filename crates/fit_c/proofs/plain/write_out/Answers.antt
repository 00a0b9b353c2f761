use Rattle.std.proofs.Common.{ℕ, List, length, ap, ◌∙◌, arith}
use Rattle.std.specs.Io.Iter.{u64_saturate}
use Rattle.fit_c.proofs.Written.{form_counted}
use Rattle.fit_c.proofs.plain.write_out.Goals as goal

pub returns-clause-needed : goal.returns-clause-needed
returns-clause-needed c = λ short.
    c.write_in.new.room.counted ∙ ap (λ (l : List ℕ). u64_saturate (length l)) c.write_in.ensures.file
    ∙ form_counted c.args.file.now (omega (arith, c.requires.size))
