use Rattle.std.proofs.Common.{ℕ, List, length, ap, ◌∙◌}
use Rattle.std.specs.Io.Iter.{u64_saturate}
use Rattle.fit_c.proofs.Written.{file_counted}
use Rattle.fit_c.proofs.salvaging.write_out.Goals as goal

pub returns-clause-needed : goal.returns-clause-needed
returns-clause-needed c = λ short.
    let salvage = c.args.salvage.now in
    c.write_in.new.room.counted ∙ ap (λ (l : List ℕ). u64_saturate (length l)) c.write_in.ensures.file
    ∙ file_counted salvage.frame (length salvage.row.now) salvage.row.now salvage.fits
