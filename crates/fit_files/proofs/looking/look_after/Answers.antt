use Rattle.std.proofs.Common.{◌≡◌, ◌-◌, length, take, drop, refl, sym, ap, ◌∙◌, arith}
use Rattle.std.proofs.lemmas.List.{length-drop, take_all}
use Rattle.fit_grammar.specs.Format.File.{FileValue, FileOf}
use Rattle.fit_files.specs.Printed.Salvaged.{looked_at}
use Rattle.fit_files.proofs.Mending.{looks_after, ok_exactly}
use Rattle.fit_files.proofs.looking.look_after.Goals as goal

pub returns : goal.returns
returns c =
    let bytes = c.args.bytes.now in
    let front = c.args.header.frame.header_size in
    let many = length-drop front bytes in
    let rest : take (length bytes - front) (drop front bytes) ≡ drop front bytes = take_all _ (drop front bytes) (omega (arith, many)) in
    let seen = ap length c.looked_at-seen.ensures ∙ ap (λ t. length (looked_at c.args.all c.args.header.data_size t)) rest in
    let trusted = ok_exactly c.read.result (FileOf bytes) ((file : FileValue) × FileOf bytes file) c.read.ensures.file
    (λ file. c.read.ensures.taken file.0 file.1) (λ file is. (file, is)) in
    looks_after c.args.all bytes c.args.header.frame c.args.header.data_size _ c.requires.begins refl refl seen
    (omega (arith, c.saturating_sub.ensures, seen, many, ap length rest))
    (λ is. trusted.0 (sym c.is_ok.ensures.value ∙ is), λ file. c.is_ok.ensures.value ∙ trusted.1 file)
