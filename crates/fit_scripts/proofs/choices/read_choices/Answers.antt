use Rattle.std.proofs.Common.{sym, ap, ◌∙◌, inl, inr}
use Rattle.std.specs.Result.{result_ok}
use Rattle.fit_scripts.proofs.Scripts.Hexadecimal.{decoded_of}
use Rattle.fit_scripts.proofs.choices.read_choices.Goals as goal

pub returns-in-Ok : goal.returns-in-Ok
returns-in-Ok c = ap result_ok (sym c.in-Ok.ensures.ok) ∙ decoded_of c.args.word.now

pub returns-in_default : goal.returns-in_default
returns-in_default c =
    elim c.in-Err.ensures.err [
      | inl no_memory ↦ absurd (c.in_default.not-OutOfMemory no_memory)
      | inr refused ↦ ap result_ok (sym refused) ∙ decoded_of c.args.word.now
    ]
