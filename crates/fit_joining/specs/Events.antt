-- The definitions and the contents of what is added: an event of the timer, and the sport.
use Rattle.std.specs.Prelude.{ℕ, List, [], ◌∷◌, ◌++◌}
use Rattle.fit_base.specs.declared.order.Arch.TheVariants.{Little}
use Rattle.fit_grammar.specs.declared.definition.Definition.{Definition}
use Rattle.fit_grammar.specs.Format.Item.{native_definition}
use Rattle.fit_grammar.specs.Format.Encoding.{four_bytes}
use Rattle.fit_finishing.specs.declared.sport.SportStated.{SportStated}

abbrev pub event_definition : Definition
event_definition =
    native_definition 0 Little 21
    (record { number = 253; size = 4; base = 0x86 } ∷ record { number = 0; size = 1; base = 0 }
    ∷ record { number = 1; size = 1; base = 0 } ∷ [])

abbrev pub event_content : ℕ → ℕ → List ℕ
event_content time type = four_bytes time ++ 0 ∷ type ∷ []

abbrev pub sport_definition : Definition
sport_definition =
    native_definition 0 Little 12
    (record { number = 0; size = 1; base = 0 } ∷ record { number = 1; size = 1; base = 0 } ∷ [])

abbrev pub sport_content : SportStated → List ℕ
sport_content s = s.sport ∷ s.sub_sport ∷ []
