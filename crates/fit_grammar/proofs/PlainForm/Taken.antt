-- Which definitions a definition and a data message leave in force in a plain form: for `take_data`.
use Rattle.std.proofs.Common.{◌≡◌, ℕ, List, [], ◌∷◌, ◌++◌, Bool, true, false, not, Some, refl, sym, ap, ◌∙◌}
use Rattle.std.specs.Prelude.{slice_set}
use Rattle.std.proofs.Math.Bool.{beq}
use Rattle.std.proofs.lemmas.List.{set-get_or}
use Rattle.fit_grammar.specs.declared.definition.Definition.{Definition}
use Rattle.fit_grammar.specs.Format.Item.{Defines}
use Rattle.fit_grammar.specs.Format.Records.{in_force}
use Rattle.fit_grammar.specs.Format.File.{FileValue}
use Rattle.fit_grammar.specs.Calls.Adding.{with_item}
use Rattle.fit_grammar.specs.Calls.PlainForm.{timed_definition, is_timed}
use Rattle.fit_grammar.proofs.KeptRow.InForce.{in_force-defines}

-- the time in front does not change the local number
pub timed_local : (timed : Bool) (d : Definition) → (timed_definition timed d).local ≡ d.local
timed_local false d = refl
timed_local true d = refl

-- after a definition, it is in force
pub defined_here : (v w : FileValue) (d : Definition) (local : ℕ) → w ≡ with_item v (Defines d) → d.local ≡ local
    → in_force w.items local ≡ Some d
defined_here v w d local e is =
    ap (λ (u : FileValue). in_force u.items local) e
    ∙ ap (λ (l : ℕ). in_force (v.items ++ Defines d ∷ []) l) (sym is)
    ∙ in_force-defines v.items d

-- setting the flag that is already there changes nothing
pub set_again : (timed : List Bool) (local : ℕ) (b : Bool) → is_timed timed local ≡ b → slice_set timed local b ≡ timed
set_again timed local b is = ap (λ (x : Bool). slice_set timed local x) (sym is) ∙ set-get_or timed local false

-- the flag is what the message needs
pub same_flag : (has needs : Bool) → not (beq has needs) ≡ false → has ≡ needs
same_flag false false e = refl
same_flag true true e = refl
same_flag false true e = sym e
same_flag true false e = e
