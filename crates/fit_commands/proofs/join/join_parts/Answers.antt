use Rattle.std.proofs.Common.{◌∷◌, length, refl, sym, ap, subst, ◌∙◌, inl, inr}
use Rattle.fit_grammar.specs.Format.Encoding.{encoded}
use Rattle.fit_grammar.specs.Format.File.{FileValue}
use Rattle.fit_grammar.specs.Format.Message.{messages_of}
use Rattle.fit_finishing.specs.Finished.{IsFinishing, finished_by}
use Rattle.fit_commands.specs.JoinedFile.{IsJoinedFile}
use Rattle.fit_commands.specs.Written.{count_line}
use Rattle.fit_commands.proofs.Written.{stops}
use Rattle.fit_commands.proofs.join.join_parts.Goals as goal

pub returns-in_err-finished : goal.returns-in_err-finished
returns-in_err-finished g c = inl (
  c.in_err-finished.field-0.0,
  stops _ _ c.from_residual-in_err-finished.ensures,
  inr (c.in_ok-joined.joined, c.in_ok-joined.ensures.joined, c.in_err-finished.ensures.reported),
  refl,
  refl,
)

pub returns : goal.returns
returns g c =
    let finished = c.in_ok-finished.finished in
    let same = c.in_ok-finished.ensures.finished.0 in
    inr (
      finished,
      (
        subst (IsJoinedFile c.args.as_given (g.F.NamedFiles.held c.args.files.now) (c.args.first ∷ c.args.others.now)) (sym same) c.in_ok-joined.ensures.joined,
        subst (λ (file : FileValue). IsFinishing file finished.finishing) (sym same) c.in_ok-finished.ensures.finished.1,
      ),
      encoded (finished_by finished.file finished.finishing),
      count_line c.count_messages-count.result,
      (
        refl,
        ap count_line (c.count_messages-count.ensures.count ∙ ap (λ (file : FileValue). length (messages_of file.items)) (sym same)),
      ),
      c.write_counted.ensures,
    )
