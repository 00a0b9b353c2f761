-- The one value of a field.
use Rattle.std.specs.Prelude.{ℕ, [], ◌∷◌, Option, Some, None, ◌==◌, find, option_and_then, if◌then◌else◌}
use Rattle.fit_base.specs.declared.base.BaseType.{BaseType}
use Rattle.fit_base.specs.Base.{row_of}
use Rattle.fit_base.specs.Value.{Values, Numbers}
use Rattle.fit_grammar.specs.Format.Message.{Message, MessageField}

-- the value, if there is exactly one
abbrev pub one_of : Values → Option ℕ
one_of (Numbers (value ∷ [])) = Some value
one_of _ = None

-- the number of a field, valid or not, if it has this base type and one value
abbrev pub number_in : BaseType → MessageField → Option ℕ
number_in base field =
    if field.base == (row_of base).code then one_of field.values else None

-- the value of a field, if it has this base type and one value that is not invalid
abbrev pub value_in : BaseType → MessageField → Option ℕ
value_in base field =
    if field.base == (row_of base).code
    then option_and_then (λ value. if value == (row_of base).invalid
    then None else Some value) (one_of field.values)
    else None

-- the same for the first field of this number
abbrev pub value_of : BaseType → ℕ → Message → Option ℕ
value_of base number m =
    option_and_then (value_in base) (find (λ field. field.number == number) m.fields)
