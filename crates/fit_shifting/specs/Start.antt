-- When the ride of a file begins.
use Rattle.std.specs.Prelude.{ℕ, List, [], ◌∷◌, Option, None, ◌==◌, if◌then◌else◌}
use Rattle.std.specs.Option.{option_or}
use Rattle.fit_grammar.specs.Format.Message.{Message, time_stated}

-- the first time that a message states
abbrev pub first_time : List Message → Option ℕ
first_time [] = None
first_time (m ∷ messages) = option_or (time_stated m.fields) (first_time messages)

-- the first time that a record states
abbrev pub first_of_record : List Message → Option ℕ
first_of_record [] = None
first_of_record (m ∷ messages) =
    if m.global == 20
    then option_or (time_stated m.fields) (first_of_record messages) else first_of_record messages

-- the time of the first record that has one, or else of the first message
abbrev pub start_of : List Message → Option ℕ
start_of messages = option_or (first_of_record messages) (first_time messages)
