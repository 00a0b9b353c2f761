-- What is compared of the parts of an activity: their sports and their times.
use Rattle.std.specs.Prelude.{ℕ, ◌+◌, Bool, true, false, not, List, [], ◌∷◌, max, Option, Some, None, option_map, ◌==◌, nat_lt, if◌then◌else◌}
use Rattle.std.specs.Option.{option_or}
use Rattle.fit_grammar.specs.Format.Message.{Message, messages_of}
use Rattle.fit_finishing.specs.Sports.{first_sport}
use Rattle.fit_joining.specs.declared.misfit.Misfit.{Misfit}
use Rattle.fit_joining.specs.declared.misfit.MisfitKind.{MisfitKind}
use Rattle.fit_joining.specs.declared.misfit.MisfitKind.TheVariants.{OtherSport, Overlap}
use Rattle.fit_joining.specs.declared.misfit.Stated.{Stated}
use Rattle.fit_joining.specs.declared.part.Part.{Part}
use Rattle.fit_joining.specs.Timer.{span_of}

-- ---- what a part states

-- the time of its first record, event or lap, and that of its last one
abbrev pub first_time_of : List Message → Option ℕ
first_time_of messages = (span_of true messages).first

abbrev pub first_time : Part → Option ℕ
first_time part = first_time_of (messages_of part.file.items)

abbrev pub last_time : Part → Option ℕ
last_time part = (span_of true (messages_of part.file.items)).last

abbrev pub sport_of : Part → Option ℕ
sport_of part = option_map (λ stated. stated.sport) (first_sport (messages_of part.file.items))

-- ---- what some parts state

-- the later of two times, or the one that is there
abbrev pub later : Option ℕ → Option ℕ → Option ℕ
later (Some one) (Some other) = Some (max one other)
later one None = one
later None other = other

-- the first sport, and the latest of the last times
abbrev pub stated_by : Stated → Option ℕ → Option ℕ → Stated
stated_by s sport last = record { sport = option_or s.sport sport; last = later s.last last }

abbrev pub nothing_stated : Stated
nothing_stated = record { sport = None; last = None }

abbrev pub stated_after : Stated → Part → Stated
stated_after s part = stated_by s (sport_of part) (last_time part)

-- ---- whether a part goes with those before it

-- what is not there is not compared
abbrev pub is_before : Option ℕ → Option ℕ → Bool
is_before (Some one) (Some other) = nat_lt one other
is_before _ _ = false

abbrev pub is_other : Option ℕ → Option ℕ → Bool
is_other (Some one) (Some other) = not (one == other)
is_other _ _ = false

-- it has another sport, or it begins before one of them ends
abbrev pub misfit_by : Stated → Option ℕ → Option ℕ → Option MisfitKind
misfit_by s sport first =
    if is_other s.sport sport then Some OtherSport
    else if is_before first s.last then Some Overlap
    else None

abbrev pub misfit_named : Part → ℕ → Option MisfitKind → Option Misfit
misfit_named part number None = None
misfit_named part number (Some kind) = Some (record { name = part.name; number = number; kind = kind })

-- the first of these parts that does not go with those before it, which are so many and state `s`
abbrev pub misfit_after : Stated → ℕ → List Part → Option Misfit
misfit_after s number [] = None
misfit_after s number (part ∷ parts) =
    option_or (misfit_named part number (misfit_by s (sport_of part) (first_time part)))
    (misfit_after (stated_after s part) (number + 1) parts)

abbrev pub first_misfit : List Part → Option Misfit
first_misfit parts = misfit_after nothing_stated 0 parts
