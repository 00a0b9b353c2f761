-- Times that are shown as dates: which fields hold them, and their text in UTC, such as 2021-09-08T01:46:40Z.
use Rattle.std.specs.Prelude.{ℕ, zero, suc, ◌+◌, ◌/◌, ◌%◌, pos, Bool, List, [], ◌∷◌, ◌++◌, codes, Option, Some, None, ◌==◌, nat_le, nat_lt, if◌then◌else◌}
use Rattle.std.specs.List.{list_any}
use Rattle.std.specs.Option.{option_and_then}
use Rattle.jiff.specs.Words.{days_in_month}
use Rattle.fit_base.specs.declared.base.BaseType.TheVariants.{Uint32}
use Rattle.fit_grammar.specs.Format.Message.{MessageField}
use Rattle.fit_grammar.specs.Format.OneValue.{value_in}
use Rattle.fit_profile.specs.Row.{times_at}

-- ---- fields

-- the numbers of the fields that are shown as dates: the known ones that hold times
abbrev pub dates_of : Bool → ℕ → List ℕ
dates_of utc global = if utc then times_at global else []

-- a calendar time; below it, a time is in seconds since the device was switched on
abbrev pub calendar_time : ℕ → Option ℕ
calendar_time time = if nat_le 268435456 time then Some time else None

-- the time that is shown as a date, if the field has one of these numbers and one valid uint32 that is a calendar time
abbrev pub date_in : List ℕ → MessageField → Option ℕ
date_in numbers field =
    if list_any (λ number. number == field.number) numbers
    then option_and_then calendar_time (value_in Uint32 field) else None

-- ---- dates

-- a day of the calendar
pub record Day : Type 0 where
  pub year : ℕ
  pub month : ℕ
  pub day : ℕ

-- the next day
abbrev pub next_day : Day → Day
next_day d =
    if nat_lt d.day (days_in_month (pos d.year) d.month) then record {
      year =
          d.year;
      month = d.month;
      day = d.day + 1;
    }
    else if nat_lt d.month 12 then record { year = d.year; month = d.month + 1; day = 1 }
    else record { year = d.year + 1; month = 1; day = 1 }

-- the day that is so many days after 1970-01-01
unfoldable pub day_after : ℕ → Day
day_after zero = record { year = 1970; month = 1; day = 1 }
day_after (suc days) = next_day (day_after days)

-- the two digits of a number below 100
abbrev pub two_digits : ℕ → List ℕ
two_digits n = (48 + n / 10) ∷ (48 + n % 10) ∷ []

abbrev pub day_text : Day → List ℕ
day_text d =
    two_digits (d.year / 100) ++ two_digits (d.year % 100) ++ codes "-" ++ two_digits d.month
    ++ codes "-" ++ two_digits d.day

-- the time of day, so many seconds after midnight
abbrev pub clock_text : ℕ → List ℕ
clock_text second =
    two_digits (second / 3600) ++ codes ":" ++ two_digits (second / 60 % 60) ++ codes ":"
    ++ two_digits (second % 60)

-- the seconds since 1970 of a time that counts from 1989-12-31
abbrev pub unix_second : ℕ → ℕ
unix_second time = time + 631065600

unfoldable pub date_text : ℕ → List ℕ
date_text time =
    day_text (day_after (unix_second time / 86400)) ++ codes "T"
    ++ clock_text (unix_second time % 86400) ++ codes "Z"
