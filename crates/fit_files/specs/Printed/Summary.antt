-- The line of the summary of an activity.
use Rattle.std.specs.Prelude.{ℕ, List, ◌++◌, Option, Some, None, codes, decimal}
use Rattle.fit_activity.specs.declared.activity.Summary.{Summary}

-- a number, or `-` for none
abbrev pub or_dash : Option ℕ → List ℕ
or_dash None = codes "-"
or_dash (Some number) = decimal number

-- the numbers of records, laps and sessions, and then the values of the first session
abbrev pub summary_text : Summary → List ℕ
summary_text s =
    codes "ok records=" ++ decimal s.records ++ codes " laps=" ++ decimal s.laps
    ++ codes " sessions=" ++ decimal s.sessions
    ++ codes " start=" ++ or_dash s.start ++ codes " elapsed_ms=" ++ or_dash s.elapsed_ms
    ++ codes " timer_ms=" ++ or_dash s.timer_ms ++ codes " distance_cm=" ++ or_dash s.distance_cm
