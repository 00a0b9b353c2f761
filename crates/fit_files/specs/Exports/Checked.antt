-- What is printed of one of several files as JSON.
use Rattle.std.specs.Prelude.{ℕ, List, ◌++◌, Option, Some, None, Result, Ok, Err, codes, decimal}
use Rattle.std.specs.Borrow.{Bor}
use Rattle.fit_activity.specs.declared.activity.Summary.{Summary}
use Rattle.fit_text.specs.Json.{string_json}

-- a number, or null
abbrev pub number_json : Option ℕ → List ℕ
number_json None = codes "null"
number_json (Some number) = decimal number

abbrev pub member_json : List ℕ → Option ℕ → List ℕ
member_json name number = codes ",\"" ++ (name ++ (codes "\":" ++ number_json number))

-- the values of the line of a summary
abbrev pub summary_json : Summary → List ℕ
summary_json summary =
    member_json (codes "records") (Some summary.records)
    ++ (member_json (codes "laps") (Some summary.laps)
    ++ (member_json (codes "sessions") (Some summary.sessions)
    ++ (member_json (codes "start") summary.start
    ++ (member_json (codes "elapsed_ms") summary.elapsed_ms
    ++ (member_json (codes "timer_ms") summary.timer_ms
    ++ member_json (codes "distance_cm") summary.distance_cm)))))

-- the summary of a file, or why it has none
abbrev pub found_json : Result Summary (Bor (List ℕ)) → List ℕ
found_json (Ok summary) = summary_json summary
found_json (Err fault) = codes ",\"fault\":" ++ string_json fault.now

-- an object on a line
abbrev pub checked_json : List ℕ → Result Summary (Bor (List ℕ)) → List ℕ
checked_json name found =
    codes "{\"file\":" ++ (string_json name ++ (found_json found ++ codes "}\n"))
