use Rattle.std.proofs.Common.{◌++◌, ◌∙◌, ap, subst}
use Rattle.fit_files.specs.Calls.Reading.{DecodesWith}
use Rattle.fit_files.specs.Printed.Salvaged.{saved_file}
use Rattle.fit_files.proofs.Reported.Salvaged.{decodes_salvage}
use Rattle.fit_files.proofs.salvage.Salvage.decoded.Goals as goal

pub returns-clause-decodes : goal.returns-clause-decodes
returns-clause-decodes c =
    let salvage = c.args.self.now in
    let written = c.as_slice.ensures.value ∙ c.in-Ok.ensures.written.all ∙ ap (λ front. front ++ saved_file salvage) c.new-bytes.ensures.items in
    decodes_salvage salvage c.decode_whole.result (subst (λ bytes. DecodesWith bytes c.decode_whole.result) written c.decode_whole.ensures)
