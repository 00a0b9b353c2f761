use Rattle.std.proofs.Common.{◌≡◌, ℕ, List, length, take, sym, ap, ◌∙◌, subst}
use Rattle.std.proofs.lemmas.List.{take-append-drop, take_at}
use Rattle.fit_grammar.specs.Format.File.{FileOf}
use Rattle.fit_grammar.specs.Format.Refusal.{Refusal}
use Rattle.fit_mending.proofs.finding.file_at.Goals as goal

pub returns-in-Ok-clause-file : goal.returns-in-Ok-clause-file
returns-in-Ok-clause-file c = (
  c.in-Ok.field-0,
  c.in-Ok.ensures.file,
  c.split_at.result.1.now,
  sym (rw (c.split_at.ensures.front) (rw (c.split_at.ensures.back) (take-append-drop c.first_file.result c.args.bytes.now))),
)

pub returns-in-Err-clause-none : goal.returns-in-Err-clause-none
returns-in-Err-clause-none c = λ begins.
    let (file, (v, is, rest, joined)) = begins in
    let end : c.first_file.result ≡ length file = c.first_file.ensures.whole file rest v joined is in
    let own : c.split_at.result.0.now ≡ file =
    c.split_at.ensures.front ∙ ap (take c.first_file.result) joined ∙ take_at file rest c.first_file.result (sym end) in
    c.in-Err.ensures.taken v (subst (λ (l : List ℕ). FileOf l v) (sym own) is)

pub returns-in-Err-clause-read : goal.returns-in-Err-clause-read
returns-in-Err-clause-read c = (
  c.first_file.result,
  c.first_file.ensures.ends,
  c.in-Err.fault.kind,
  subst (λ (l : List ℕ). Refusal l c.in-Err.fault.kind c.in-Err.fault.place) c.split_at.ensures.front c.in-Err.ensures.refused.1,
)
