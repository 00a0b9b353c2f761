use Rattle.std.proofs.Common.{◌≡◌, rules, true, Some, None, refl, ap}
use Rattle.fit_files.specs.declared.kept.Heard.{Heard}
use Rattle.fit_files.specs.declared.salvage.Salvage.{Salvage}
use Rattle.fit_files.specs.Printed.Salvaged.{saved_file}
use Rattle.fit_finishing.specs.declared.finishing.Finishing.{Finishing}
use Rattle.fit_finishing.specs.Finished.{IsFinishing, finished_by}
use Rattle.fit_grammar.specs.Format.Encoding.{encoded}
use Rattle.fit_grammar.specs.Format.File.{FileValue}
use Rattle.fit_words.specs.declared.request.SalvageForm.{SalvageForm}
use Rattle.fit_commands.specs.Reported.{IsFormOf, IsMade, heard_of}
use Rattle.fit_commands.proofs.Written.{stops, stops_made}
use Rattle.fit_commands.proofs.salvage.write_kept.Goals as goal

finished_made : (form : SalvageForm) (salvage : Salvage) (file same : FileValue) (finishing : Finishing) (heard : Heard) → form.finish ≡ true
    → IsFormOf form.plain salvage file → same ≡ file → IsFinishing file finishing → heard ≡ heard_of finishing
    → IsMade form salvage (Some heard) (encoded (finished_by same finishing))
finished_made form salvage file same finishing heard asked form_is is finishes heard_is =
    (asked, file, form_is, finishing, finishes, heard_is, ap (λ (v : FileValue). encoded (finished_by v finishing)) is)

pub returns-in_err-write_whole : goal.returns-in_err-write_whole
returns-in_err-write_whole g c =
    stops_made c.args.form.now c.args.salvage.now None (saved_file c.args.salvage.now) _ _ _ _ _ (stops _ _ c.from_residual.ensures) (search rules)
    c.in_err-write_whole.ensures

pub returns-in_err-write_whole-2 : goal.returns-in_err-write_whole-2
returns-in_err-write_whole-2 g c =
    stops_made c.args.form.now c.args.salvage.now None (encoded c.in_ok-file.file) _ _ _ _ _ (stops _ _ c.from_residual-in_err-write_whole-2.ensures) (search rules)
    c.in_err-write_whole-2.ensures

pub returns-in_err-write_whole-3 : goal.returns-in_err-write_whole-3
returns-in_err-write_whole-3 g c =
    let finished = c.in_ok-finished.finished in
    let heard = heard_of finished.finishing in
    stops_made c.args.form.now c.args.salvage.now (Some heard) (encoded (finished_by finished.file finished.finishing)) _ _ _ _ _
    (stops _ _ c.from_residual-in_err-write_whole-3.ensures)
    (finished_made c.args.form.now c.args.salvage.now c.in_ok-file.file finished.file finished.finishing heard (search rules)
    c.in_ok-file.ensures.form c.in_ok-finished.ensures.finished.0 c.in_ok-finished.ensures.finished.1 refl)
    c.in_err-write_whole-3.ensures

pub returns : goal.returns
returns g c =
    let finished = c.in_ok-finished.finished in (
      encoded (finished_by finished.file finished.finishing),
      finished_made c.args.form.now c.args.salvage.now c.in_ok-file.file finished.file finished.finishing _ (search rules)
          c.in_ok-file.ensures.form c.in_ok-finished.ensures.finished.0 c.in_ok-finished.ensures.finished.1 (search rules),
      search rules,
    )
