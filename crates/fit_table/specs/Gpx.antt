-- The track of an activity as GPX 1.1: a point for each record that has a position.
use Rattle.std.specs.Prelude.{ℕ, ℤ, Bool, List, [], ◌∷◌, ◌++◌, Option, Some, None, codes, ◌&&◌, ◌||◌, if◌then◌else◌}
use Rattle.std.specs.List.{flat_map}
use Rattle.std.specs.Option.{is_some, option_or}
use Rattle.fit_grammar.specs.Format.Message.{Message}
use Rattle.fit_profile.specs.declared.scale.Scale.TheVariants.{Semicircles, Height}
use Rattle.fit_columns.specs.Columns.{cell_in, messages_numbered}
use Rattle.fit_table.specs.declared.unit.Unit.{Unit as AnyUnit}
use Rattle.fit_table.specs.declared.unit.Unit.TheVariants.{Whole, Date, Scaled}
use Rattle.fit_table.specs.Number.{is_date, unit_text}

-- the fields that a point reads: position, both altitudes, time, power, temperature, heart rate and cadence
abbrev pub fields : List ℕ
fields = 0 ∷ 1 ∷ 78 ∷ 2 ∷ 253 ∷ 7 ∷ 13 ∷ 3 ∷ 4 ∷ []

-- the single whole number of a field, if it has one
abbrev pub value : ℕ → Message → Option ℤ
value number m = cell_in number m.fields

-- the enhanced altitude, or else the altitude
abbrev pub altitude : Message → Option ℤ
altitude m = option_or (value 78 m) (value 2 m)

-- a time, if it is a calendar time
abbrev pub dated : Option ℤ → Option ℤ
dated None = None
dated (Some time) = if is_date time then Some time else None

-- a value in its unit, as a table has it, between two texts; nothing without a value
abbrev pub between : List ℕ → AnyUnit → Option ℤ → List ℕ → List ℕ
between before unit None after = []
between before unit (Some value) after = before ++ (unit_text [] unit value ++ after)

abbrev pub text_if : Bool → List ℕ → List ℕ
text_if is text = if is then text else []

abbrev pub has_sensors : Message → Bool
has_sensors m = is_some (value 13 m) || is_some (value 3 m) || is_some (value 4 m)

abbrev pub sensors : Message → List ℕ
sensors m =
    text_if (has_sensors m) (codes "<gpxtpx:TrackPointExtension>"
    ++ (between (codes "<gpxtpx:atemp>") Whole (value 13 m) (codes "</gpxtpx:atemp>")
    ++ (between (codes "<gpxtpx:hr>") Whole (value 3 m) (codes "</gpxtpx:hr>")
    ++ (between (codes "<gpxtpx:cad>") Whole (value 4 m) (codes "</gpxtpx:cad>")
    ++ codes "</gpxtpx:TrackPointExtension>"))))

abbrev pub has_extensions : Message → Bool
has_extensions m = is_some (value 7 m) || has_sensors m

abbrev pub extensions : Message → List ℕ
extensions m =
    text_if (has_extensions m) (codes "<extensions>"
    ++ (between (codes "<power>") Whole (value 7 m) (codes "</power>")
    ++ (sensors m ++ codes "</extensions>")))

abbrev pub has_position : Message → Bool
has_position m = is_some (value 0 m) && is_some (value 1 m)

abbrev pub point : Message → List ℕ
point m =
    text_if (has_position m)
    (between (codes "<trkpt lat=\"") (Scaled Semicircles) (value 0 m) (codes "\"")
    ++ (between (codes " lon=\"") (Scaled Semicircles) (value 1 m) (codes "\">")
    ++ (between (codes "<ele>") (Scaled Height) (altitude m) (codes "</ele>")
    ++ (between (codes "<time>") Date (dated (value 253 m)) (codes "</time>")
    ++ (extensions m ++ codes "</trkpt>\n")))))

abbrev pub head : List ℕ
head =
    codes "<?xml version=\"1.0\" encoding=\"UTF-8\"?>\n<gpx version=\"1.1\" creator=\"fitrec\" xmlns=\"http://www.topografix.com/GPX/1/1\" xmlns:gpxtpx=\"http://www.garmin.com/xmlschemas/TrackPointExtension/v1\">\n<trk><trkseg>\n"

-- the whole file
unfoldable pub gpx_of : List Message → List ℕ
gpx_of messages =
    head ++ (flat_map point (messages_numbered 20 messages) ++ codes "</trkseg></trk>\n</gpx>\n")
