use Rattle.std.proofs.Common.{List, ℕ, take, sym, ap, ◌∙◌, subst}
use Rattle.fit_grammar.specs.Format.Records.{Records}
use Rattle.fit_mending.proofs.Files.{records_at}
use Rattle.fit_mending.proofs.known.latest_in.Goals as goal

pub returns-clause-latest : goal.returns-clause-latest
returns-clause-latest c =
    let v = c.in_ok-_whole._whole in
    let file = c.in_ok-_whole.ensures.file in
    let header = c.in_ok-header.header in
    let at = c.split_at-2.ensures.front ∙ ap (take header.data_size) c.split_at.ensures.back
    ∙ records_at c.args.file.now v file header.frame header.data_size c.in_ok-header.ensures.header in
    (v, file, c.latest_after.ensures v.items (subst (λ (l : List ℕ). Records l v.items) (sym at) file.are_records))
