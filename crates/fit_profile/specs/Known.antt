-- What is known of the Profile without `--profile`, from the tables in src/known.rt. Made by crates/fit_profile/make from
-- python/fitrec/profile.txt.
use Rattle.std.specs.Prelude.{ℕ, List, map, Option, Some, None, codes, ◌==◌, if◌then◌else◌}
use Rattle.fit_profile.specs.Facts.{FieldFacts}
use Rattle.fit_profile.specs.declared.known.TheConstants.{KNOWN_FILE_ID, KNOWN_SPORT, KNOWN_SESSION, KNOWN_LAP, KNOWN_RECORD, KNOWN_EVENT, KNOWN_ACTIVITY, KNOWN_OTHERS, KNOWN_COMMON}

unfoldable pub file_id_known : List FieldFacts
file_id_known = map (λ row. (row.0, row.1.now, row.2.now, row.3)) KNOWN_FILE_ID.now

unfoldable pub sport_known : List FieldFacts
sport_known = map (λ row. (row.0, row.1.now, row.2.now, row.3)) KNOWN_SPORT.now

unfoldable pub session_known : List FieldFacts
session_known = map (λ row. (row.0, row.1.now, row.2.now, row.3)) KNOWN_SESSION.now

unfoldable pub lap_known : List FieldFacts
lap_known = map (λ row. (row.0, row.1.now, row.2.now, row.3)) KNOWN_LAP.now

unfoldable pub record_known : List FieldFacts
record_known = map (λ row. (row.0, row.1.now, row.2.now, row.3)) KNOWN_RECORD.now

unfoldable pub event_known : List FieldFacts
event_known = map (λ row. (row.0, row.1.now, row.2.now, row.3)) KNOWN_EVENT.now

unfoldable pub activity_known : List FieldFacts
activity_known = map (λ row. (row.0, row.1.now, row.2.now, row.3)) KNOWN_ACTIVITY.now

unfoldable pub others_known : List FieldFacts
others_known = map (λ row. (row.0, row.1.now, row.2.now, row.3)) KNOWN_OTHERS.now

unfoldable pub common_known : List FieldFacts
common_known = map (λ row. (row.0, row.1.now, row.2.now, row.3)) KNOWN_COMMON.now

-- the name of the message with this global number; none if it is not known
abbrev pub known_named : ℕ → Option (List ℕ)
known_named number =
    if number == 0 then Some (codes "file_id") else
    if number == 12 then Some (codes "sport") else
    if number == 18 then Some (codes "session") else
    if number == 19 then Some (codes "lap") else
    if number == 20 then Some (codes "record") else
    if number == 21 then Some (codes "event") else
    if number == 34 then Some (codes "activity") else
    None

-- the known fields of the message with this global number, in the order of a table's columns
abbrev pub known_at : ℕ → List FieldFacts
known_at number =
    if number == 0 then file_id_known else
    if number == 12 then sport_known else
    if number == 18 then session_known else
    if number == 19 then lap_known else
    if number == 20 then record_known else
    if number == 21 then event_known else
    if number == 34 then activity_known else
    others_known
