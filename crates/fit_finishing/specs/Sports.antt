-- The sport of a file: that of the first sport message, session or lap that states one (FIT profile: sport, sub_sport).
use Rattle.std.specs.Prelude.{ℕ, List, [], ◌∷◌, Option, None, option_map, unwrap_or, ◌==◌, if◌then◌else◌}
use Rattle.std.specs.Option.{option_or}
use Rattle.fit_base.specs.declared.base.BaseType.TheVariants.{Enum}
use Rattle.fit_grammar.specs.Format.Message.{Message}
use Rattle.fit_grammar.specs.Format.OneValue.{value_of}
use Rattle.fit_finishing.specs.declared.sport.SportStated.{SportStated}

-- generic, which stands for none
abbrev pub generic : SportStated
generic = record { sport = 0; sub_sport = 0 }

-- the sport in a field of this number, and the sub_sport in another, which is generic if there is none
abbrev pub sport_at : ℕ → ℕ → Message → Option SportStated
sport_at sport sub_sport m =
    option_map (λ number. record { sport = number; sub_sport = unwrap_or (value_of Enum sub_sport m) 0 })
    (value_of Enum sport m)

abbrev pub sport_value : Message → Option SportStated
sport_value m =
    if m.global == 12 then sport_at 0 1 m
    else if m.global == 18 then sport_at 5 6 m
    else if m.global == 19 then sport_at 25 39 m
    else None

abbrev pub first_sport : List Message → Option SportStated
first_sport [] = None
first_sport (m ∷ messages) = option_or (sport_value m) (first_sport messages)

abbrev pub sport_heard : List Message → SportStated
sport_heard messages = unwrap_or (first_sport messages) generic
