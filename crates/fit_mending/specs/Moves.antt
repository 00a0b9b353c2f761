-- How far a rider can move: the distance and the position of a record after those of the records before it.
use Rattle.std.specs.Prelude.{ℕ, ◌+◌, ◌-◌, ◌*◌, List, [], ◌∷◌, Option, Some, None, nat_lt, ◌==◌, if◌then◌else◌}
use Rattle.fit_base.specs.declared.base.BaseType.TheVariants.{Sint32, Uint32}
use Rattle.fit_grammar.specs.Format.Message.{MessageField}
use Rattle.fit_grammar.specs.Format.OneValue.{value_in}
use Rattle.fit_mending.specs.declared.values.Change.{Change}
use Rattle.fit_mending.specs.declared.values.Change.TheVariants.{Unknown, Usual, Large, Impossible}
use Rattle.fit_mending.specs.declared.values.Stated.{Stated}
use Rattle.fit_mending.specs.declared.values.Values.{Values}

-- a change by so many cm, or angles of about 0.9 cm, in so many seconds: at most 100 m/s, after a gap of 10 km, can be; 30 m/s and 50 m are
-- usual
abbrev pub change_in : ℕ → ℕ → Change
change_in much seconds =
    if nat_lt (1000000 + 10000 * seconds) much then Impossible
    else if nat_lt (5000 + 3000 * seconds) much then Large
    else Usual

-- a distance does not fall
abbrev pub distance_change : Option Stated → Option ℕ → ℕ → Change
distance_change (Some old) (Some number) time =
    if nat_lt number old.number then Impossible else change_in (number - old.number) (time - old.time)
distance_change _ _ time = Unknown

-- 2^32 angles are a circle, which has a shorter way round
abbrev pub shorter : ℕ → ℕ
shorter much = if nat_lt 2147483648 much then 4294967296 - much else much

abbrev pub apart : ℕ → ℕ → ℕ
apart one other = shorter ((one - other) + (other - one))

abbrev pub angle_change : Option Stated → Option ℕ → ℕ → Change
angle_change (Some old) (Some number) time = change_in (apart old.number number) (time - old.time)
angle_change _ _ time = Unknown

-- a valid value is the last one from there on
abbrev pub last_value : Option Stated → Option ℕ → ℕ → Option Stated
last_value old None time = old
last_value old (Some number) time = Some (record { number = number; time = time })

-- field 5 of a record is its distance, and fields 0 and 1 are its position
abbrev pub change_of : Values → ℕ → MessageField → Change
change_of values time field =
    if field.number == 5 then distance_change values.distance (value_in Uint32 field) time
    else if field.number == 0 then angle_change values.latitude (value_in Sint32 field) time
    else if field.number == 1 then angle_change values.longitude (value_in Sint32 field) time
    else Unknown

abbrev pub values_with : Values → ℕ → MessageField → Values
values_with values time field =
    if field.number == 5 then record values { distance = last_value values.distance (value_in Uint32 field) time }
    else if field.number == 0 then record values { latitude = last_value values.latitude (value_in Sint32 field) time }
    else if field.number == 1 then record values { longitude = last_value values.longitude (value_in Sint32 field) time }
    else values

-- the greater of two changes
abbrev pub greater : Change → Change → Change
greater Impossible other = Impossible
greater Large Impossible = Impossible
greater Large other = Large
greater Usual Unknown = Usual
greater Usual other = other
greater Unknown other = other

-- the greatest change of the fields of a record, and the values after it
abbrev pub changed_from : Change → Values → ℕ → List MessageField → Change
changed_from change values time [] = change
changed_from change values time (field ∷ fields) =
    changed_from (greater change (change_of values time field)) (values_with values time field) time fields

abbrev pub values_after : Values → ℕ → List MessageField → Values
values_after values time [] = values
values_after values time (field ∷ fields) = values_after (values_with values time field) time fields
