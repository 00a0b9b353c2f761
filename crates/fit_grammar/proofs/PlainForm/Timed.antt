-- The definitions in force in a plain form, with the time in front or not, after one more item.
use Rattle.std.proofs.Common.{◌≡◌, ◌≢◌, ◌<◌, ℕ, List, [], ◌∷◌, ◌++◌, Bool, true, false, length, Option, Some, refl, sym, ap, subst, ◌∙◌, inl, inr, arith, append-nil}
use Rattle.std.specs.Prelude.{slice_set, option_map}
use Rattle.std.proofs.lemmas.List.{get_or-set_same, get_or-set_other}
use Rattle.std.proofs.lemmas.Bool.{eq-eqb, ne_eqb}
use Rattle.std.proofs.lemmas.Bool.Decides.{eqb_tells}
use Rattle.fit_grammar.specs.declared.definition.Definition.{Definition}
use Rattle.fit_grammar.specs.Format.Item.{Item, Defines, Data}
use Rattle.fit_grammar.specs.Format.Records.{in_force}
use Rattle.fit_grammar.specs.Calls.Table.{in_force_after}
use Rattle.fit_grammar.specs.Calls.PlainForm.{timed_definition, is_timed, definitions_before}
use Rattle.fit_grammar.specs.Private.PlainSoFar.{AreTimed}
use Rattle.fit_grammar.proofs.KeptRow.InForce.{in_force-defines, in_force-others, in_force-data}
use Rattle.fit_grammar.proofs.KeptRow.Lent.{after_defines}
use Rattle.fit_grammar.proofs.PlainForm.Taken.{timed_local, set_again}

-- after a definition that the lookup has
timed-defines : (f g : ℕ → Option Definition) (timed : List Bool) (items : List Item) (d : Definition) (needs : Bool) → d.local < length timed
    → AreTimed f timed items → g d.local ≡ Some d → ((l : ℕ) → l ≢ d.local → g l ≡ f l)
    → AreTimed g (slice_set timed d.local needs) (items ++ Defines (timed_definition needs d) ∷ [])
timed-defines f g timed items d needs small are here others l =
    let new = timed_definition needs d in
    let set = slice_set timed d.local needs in
    let at : ℕ → Option Definition = λ n. option_map (timed_definition (is_timed set n)) (g n) in
    elim (eqb_tells l d.local) [
      | inl same ↦
          let flag : is_timed set d.local ≡ needs = get_or-set_same timed d.local needs false small in
          let right : at d.local ≡ Some new =
          ap (λ (b : Bool). option_map (timed_definition b) (g d.local)) flag ∙ ap (λ (o : Option Definition). option_map (timed_definition needs) o) here in
          ap (λ (n : ℕ). in_force (items ++ Defines new ∷ []) n) (same.1 ∙ sym (timed_local needs d))
          ∙ in_force-defines items new ∙ sym right ∙ ap at (sym same.1)
      | inr other ↦
          let flag : is_timed set l ≡ is_timed timed l = get_or-set_other timed d.local l needs false other.1 in
          in_force-others items new l (λ e. other.1 (e ∙ timed_local needs d)) ∙ are l
          ∙ ap (λ (o : Option Definition). option_map (timed_definition (is_timed timed l)) o) (sym (others l other.1))
          ∙ ap (λ (b : Bool). option_map (timed_definition b) (g l)) (sym flag)
    ]

here_after : (d : Definition) (f : ℕ → Option Definition) → in_force_after (Defines d) f d.local ≡ Some d
here_after d f = rw (eq-eqb d.local d.local refl) refl

others_after : (d : Definition) (f : ℕ → Option Definition) (l : ℕ) → l ≢ d.local → in_force_after (Defines d) f l ≡ f l
others_after d f l other = rw (ne_eqb d.local l (λ e. other (sym e))) refl

-- after a definition of the file
pub timed-definition : (f : ℕ → Option Definition) (timed : List Bool) (items : List Item) (d : Definition) → d.local < length timed
    → AreTimed f timed items → AreTimed (in_force_after (Defines d) f) (slice_set timed d.local false) (items ++ Defines d ∷ [])
timed-definition f timed items d small are =
    timed-defines f (in_force_after (Defines d) f) timed items d false small are (here_after d f) (λ l other. others_after d f l other)

-- each definition has its local number
abbrev pub AreNamed : (ℕ → Option Definition) → Type 0
AreNamed f = (l : ℕ) (d : Definition) → f l ≡ Some d → d.local ≡ l

pub named_after : (f : ℕ → Option Definition) (d : Definition) → AreNamed f → AreNamed (in_force_after (Defines d) f)
named_after f d named l e is =
    elim (after_defines d e f l is) [
      | inl same ↦ ap (λ (x : Definition). x.local) (sym same.1) ∙ sym same.0
      | inr other ↦ named l e other.1
    ]

kept_flag : (f : ℕ → Option Definition) (timed : List Bool) (items : List Item) (local : ℕ) (needs : Bool) → is_timed timed local ≡ needs
    → AreTimed f timed items → AreTimed f (slice_set timed local needs) (items ++ [])
kept_flag f timed items local needs is are =
    subst (λ (is : List Item). AreTimed f (slice_set timed local needs) is) (sym (append-nil items))
    (subst (λ (t : List Bool). AreTimed f t items) (sym (set_again timed local needs is)) are)

-- after the definition that is written before a message, if one is
pub timed-before : (f : ℕ → Option Definition) (timed : List Bool) (items : List Item) (d : Definition) (local : ℕ) (has needs : Bool)
    → local < length timed → d.local ≡ local → f local ≡ Some d → is_timed timed local ≡ has → AreTimed f timed items
    → AreTimed f (slice_set timed local needs) (items ++ definitions_before has needs d)
timed-before f timed items d local true true small named here is are = kept_flag f timed items local true is are
timed-before f timed items d local false false small named here is are = kept_flag f timed items local false is are
timed-before f timed items d local true false small named here is are =
    subst (λ (n : ℕ). AreTimed f (slice_set timed n false) (items ++ Defines (timed_definition false d) ∷ [])) named
    (timed-defines f f timed items d false (omega (arith, small, named)) are (ap f named ∙ here) (λ l other. refl))
timed-before f timed items d local false true small named here is are =
    subst (λ (n : ℕ). AreTimed f (slice_set timed n true) (items ++ Defines (timed_definition true d) ∷ [])) named
    (timed-defines f f timed items d true (omega (arith, small, named)) are (ap f named ∙ here) (λ l other. refl))

-- after a data message
pub timed-data : (f : ℕ → Option Definition) (timed : List Bool) (items : List Item) (local : ℕ) (offset : Option ℕ) (content : List ℕ)
    → AreTimed f timed items → AreTimed f timed (items ++ Data local offset content ∷ [])
timed-data f timed items local offset content are l = in_force-data items local offset content l ∙ are l

-- so the definition of a message's plain form is in force
pub here_timed : (f : ℕ → Option Definition) (timed : List Bool) (items : List Item) (d : Definition) (local : ℕ) (needs : Bool)
    → AreTimed f timed items → f local ≡ Some d → is_timed timed local ≡ needs → in_force items local ≡ Some (timed_definition needs d)
here_timed f timed items d local needs are here is =
    are local ∙ ap (λ (b : Bool). option_map (timed_definition b) (f local)) is
    ∙ ap (λ (o : Option Definition). option_map (timed_definition needs) o) here
