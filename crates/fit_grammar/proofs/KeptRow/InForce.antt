-- A table that agrees with the definitions in force still does after one more item: for `Kept`.
use Rattle.std.proofs.Common.{◌≡◌, ◌≢◌, ℕ, List, [], ◌∷◌, ◌++◌, Option, Some, None, refl, sym, ap, ◌∙◌}
use Rattle.std.specs.Option.{option_or}
use Rattle.std.proofs.lemmas.Bool.{eq-eqb, ne_eqb}
use Rattle.fit_grammar.specs.declared.definition.Definition.{Definition}
use Rattle.fit_grammar.specs.Format.Item.{Item, Defines, Data}
use Rattle.fit_grammar.specs.Format.Records.{definition_by, in_force}

or_assoc : {A : Type 0} (a b c : Option A) → option_or (option_or a b) c ≡ option_or a (option_or b c)
or_assoc None b c = refl
or_assoc (Some x) b c = refl

or_none : {A : Type 0} (a : Option A) → option_or a None ≡ a
or_none None = refl
or_none (Some x) = refl

-- one more item takes precedence over all others
pub in_force-append : (items : List Item) (item : Item) (l : ℕ)
    → in_force (items ++ item ∷ []) l ≡ option_or (definition_by item l) (in_force items l)
in_force-append [] item l = sym (or_none (definition_by item l))
in_force-append (first ∷ items) item l =
    ap (λ (o : Option Definition). option_or o (definition_by first l)) (in_force-append items item l)
    ∙ or_assoc (definition_by item l) (in_force items l) (definition_by first l)

-- after a definition
pub in_force-defines : (items : List Item) (d : Definition) → in_force (items ++ Defines d ∷ []) d.local ≡ Some d
in_force-defines items d = in_force-append items (Defines d) d.local ∙ rw (eq-eqb d.local d.local refl) refl

pub in_force-others : (items : List Item) (d : Definition) (l : ℕ) → l ≢ d.local → in_force (items ++ Defines d ∷ []) l ≡ in_force items l
in_force-others items d l other = in_force-append items (Defines d) l ∙ rw (ne_eqb d.local l (λ e. other (sym e))) refl

-- a data message changes none
pub in_force-data : (items : List Item) (local : ℕ) (offset : Option ℕ) (content : List ℕ) (l : ℕ)
    → in_force (items ++ Data local offset content ∷ []) l ≡ in_force items l
in_force-data items local offset content l = in_force-append items (Data local offset content) l
