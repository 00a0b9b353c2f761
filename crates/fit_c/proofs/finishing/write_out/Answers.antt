use Rattle.std.proofs.Common.{ℕ, List, length, ap, ◌∙◌}
use Rattle.std.specs.Io.Iter.{u64_saturate}
use Rattle.fit_grammar.specs.Format.Encoding.{encoded_items}
use Rattle.fit_grammar.specs.Format.Records.{data_size}
use Rattle.fit_finishing.specs.Finished.{finished_by}
use Rattle.fit_c.proofs.Written.{file_counted}
use Rattle.fit_c.proofs.Finished.{few_bytes}
use Rattle.fit_c.proofs.finishing.write_out.Goals as goal

pub returns-clause-needed : goal.returns-clause-needed
returns-clause-needed c = λ short.
    let new = finished_by c.args.file.now c.args.finishing.now in
    c.write_in.new.room.counted ∙ ap (λ (l : List ℕ). u64_saturate (length l)) c.write_in.ensures.file
    ∙ file_counted new.frame (data_size new.items) (encoded_items new.items) (few_bytes c.args.file.now c.args.finishing.now c.requires)
