use Rattle.std.proofs.Common.{◌≡◌, ℕ, ◌-◌, ◌<◌, ◌≤◌, Bool, true, false, List, Option, length, drop, refl, ap, subst, ◌∙◌, arith}
use Rattle.std.specs.Prelude.{nat_lt}
use Rattle.std.proofs.lemmas.Bool.{ltb-true, ltb-false}
use Rattle.std.proofs.lemmas.List.{length-drop}
use Rattle.fit_grammar.specs.declared.definition.Definition.{Definition}
use Rattle.fit_grammar.specs.Calls.Table.{definition_in}
use Rattle.fit_mending.specs.declared.progress.Progress.{Progress}
use Rattle.fit_mending.specs.Private.Looking.{IsEndOf}
use Rattle.fit_mending.specs.Steady.{HasSound}
use Rattle.fit_mending.proofs.stray.count_stray.Goals as goal

sound_at : (f : ℕ → Option Definition) (p : Progress) (bytes rest : List ℕ) (end place : ℕ) → IsEndOf bytes rest
    → end ≡ length bytes - length rest → place ≤ end → (place < end → HasSound f p (drop place bytes)) → HasSound f p rest
    → HasSound f p (drop place bytes)
sound_at f p bytes rest end place is end_is within before at_end = by (nat_lt place end) refl
  where
    same : end ≡ is.before
    same = omega (arith, end_is, is.within, ap length is.rest_is, length-drop is.before bytes)

    by : (b : Bool) → nat_lt place end ≡ b → HasSound f p (drop place bytes)
    by true less = before (ltb-true place end less)
    by false most =
        let there : is.before ≡ place = omega (arith, within, same, ltb-false place end most) in
        subst (HasSound f p) (is.rest_is ∙ ap (λ (n : ℕ). drop n bytes) there) at_end

pub returns-in-Some-clause-some : goal.returns-in-Some-clause-some
returns-in-Some-clause-some c = λ sound.
    sound_at (definition_in c.args.latest.now) c.args.progress.now c.args.bytes.now c.in-Some.rest.now c.saturating_sub.result
    c.first_trusted.result c.in-Some.ensures.end c.saturating_sub.ensures c.first_trusted.ensures.within c.first_trusted.ensures.some
    c.in-Some.ensures.some
