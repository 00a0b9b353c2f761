-- What a clock in UTC shows is the date of a time: for `showing/date`.
use Rattle.std.proofs.Common.{◌≡◌, ◌≢◌, ◌<◌, ◌≤◌, ◌+◌, ◌*◌, ◌/◌, ◌%◌, ℕ, zero, suc, Bool, true, false, ltb, List, [], ◌∷◌, ◌++◌, Option, None, ℤ, pos, refl, sym, ap, ◌∙◌, arith, rules, if◌then◌else◌}
use Rattle.std.proofs.lemmas.Bool.{ltb-true, ltb-false}
use Rattle.jiff.specs.Types.{Date, Time, DateTime}
use Rattle.jiff.specs.Words.{IsYear, days_in_month, epoch_day, time_nanos, civil_nanos, datetime_text}
use Rattle.jiff.proofs.Family.{epoch_day_injective, epoch_day_same, days_from_civil-day, days_from_civil-next_month, days_from_civil-next_year, days_from_civil-max, civil_nanos-parts, time_nanos_bound}
use Rattle.jiff.proofs.OnLiterals.{jiff_on_literals}
use Rattle.jiff.proofs.SpanFacts.{signed_arith}
use Rattle.fit_text.specs.Date.{Day, next_day, day_after, unix_second, date_text}

-- a calendar date that is this day, so many days after 1970-01-01
record IsCounted (n : ℕ) (d : Day) : Type 0 where
  date : Date
  year : date.year ≡ pos d.year
  month : date.month ≡ d.month
  day : date.day ≡ d.day
  count : epoch_day date ≡ pos n

no_shorter : (year : ℤ) (month : ℕ) → 1 ≤ days_in_month year month
no_shorter year month = grind arith

next_in_month : (n : ℕ) (d : Day) → d.day < days_in_month (pos d.year) d.month → IsCounted n d →
    IsCounted (suc n) (record { year = d.year; month = d.month; day = d.day + 1 })
next_in_month n d short is =
    let date = is.date in
    let room : date.day < days_in_month date.year date.month = rw (is.year, is.month, is.day) short in
    let next = days_from_civil-day date.year date.month date.day (date.day + 1) date.day_in.0 (omega arith) in
    record {
      date = record {
        year = date.year;
        month = date.month;
        day = date.day + 1;
        year_in = date.year_in;
        month_in = date.month_in;
        day_in = (omega arith, omega arith);
      };
      year = is.year;
      month = is.month;
      day = ap (λ k. k + 1) is.day;
      count = omega (arith, signed_arith, next, is.count);
    }

next_in_year : (n : ℕ) (d : Day) → days_in_month (pos d.year) d.month ≤ d.day → d.month < 12 → IsCounted n d →
    IsCounted (suc n) (record { year = d.year; month = d.month + 1; day = 1 })
next_in_year n d long early is =
    let date = is.date in
    let full : days_in_month date.year date.month ≤ date.day = rw (is.year, is.month, is.day) long in
    let next = days_from_civil-next_month date.year date.month date.day date.month_in.0 (omega (arith, date.day_in.1)) in
    record {
      date = record {
        year = date.year;
        month = date.month + 1;
        day = 1;
        year_in = date.year_in;
        month_in = (omega arith, omega (arith, is.month));
        day_in = (omega arith, no_shorter date.year (date.month + 1));
      };
      year = is.year;
      month = ap (λ k. k + 1) is.month;
      day = refl;
      count = omega (arith, signed_arith, next, is.count);
    }

next_of_year : (n : ℕ) (d : Day) → days_in_month (pos d.year) d.month ≤ d.day → 12 ≤ d.month → suc n ≤ 2_932_896 → IsCounted n d →
    IsCounted (suc n) (record { year = d.year + 1; month = 1; day = 1 })
next_of_year n d long late few is =
    let year_in : IsYear (pos d.year) = rw is.year at is.date.year_in in
    let december : is.date.month ≡ 12 = omega (arith, is.month, is.date.month_in.1) in
    let full : days_in_month is.date.year is.date.month ≤ is.date.day = rw (is.year, is.month, is.day) long in
    let least = rw december at full in
    let most = rw december at is.date.day_in.1 in
    let last : Date = record {
      year = pos d.year;
      month = 12;
      day = 31;
      year_in = year_in;
      month_in = (omega arith, omega arith);
      day_in = (omega arith, omega arith);
    } in
    let same : epoch_day is.date ≡ epoch_day last = epoch_day_same is.date last is.year december (omega (arith, least, most)) in
    let before : d.year ≢ 9999 = λ e.
    (let end : epoch_day last ≡ pos 2_932_896 = rw e days_from_civil-max in
    omega (arith, signed_arith, end, same, is.count)) in
    let next = days_from_civil-next_year (pos d.year) (pos (d.year + 1)) (omega (arith, signed_arith)) refl in
    record {
      date = record {
        year = pos (d.year + 1);
        month = 1;
        day = 1;
        year_in = (omega (arith, signed_arith), omega (arith, signed_arith, year_in.1, before));
        month_in = (omega arith, omega arith);
        day_in = (omega arith, omega arith);
      };
      year = refl;
      month = refl;
      day = refl;
      count = omega (arith, signed_arith, next, same, is.count);
    }

next_counted : (n : ℕ) (d : Day) (within early : Bool) → ltb d.day (days_in_month (pos d.year) d.month) ≡ within → ltb d.month 12 ≡ early →
    suc n ≤ 2_932_896 → IsCounted n d → IsCounted (suc n) (next_day d)
next_counted n d true early is_within is_early few is = rw is_within (next_in_month n d (ltb-true _ _ is_within) is)
next_counted n d false true is_within is_early few is =
    rw (is_within, is_early) (next_in_year n d (ltb-false _ _ is_within) (ltb-true _ _ is_early) is)
next_counted n d false false is_within is_early few is =
    rw (is_within, is_early) (next_of_year n d (ltb-false _ _ is_within) (ltb-false _ _ is_early) few is)

first_date : Date
first_date = record { year = pos 1970; month = 1; day = 1; year_in = search rules; month_in = search rules; day_in = search rules }

first_day : epoch_day first_date ≡ pos 0
unfolding jiff_on_literals first_date
first_day = refl

counted : (n : ℕ) → n ≤ 2_932_896 → IsCounted n (day_after n)
unfolding day_after first_date
counted zero few = record { date = first_date; year = refl; month = refl; day = refl; count = first_day }
counted (suc n) few = next_counted n (day_after n) _ _ refl refl few (counted n (omega arith))

same_day : (date : Date) (n : ℕ) → epoch_day date ≡ pos n → n ≤ 2_932_896 →
    (date.year ≡ pos (day_after n).year) × (date.month ≡ (day_after n).month) × (date.day ≡ (day_after n).day)
same_day date n e few =
    let is = counted n few in
    let same = epoch_day_injective date is.date (e ∙ sym is.count) in
    (same.0 ∙ is.year, same.1 ∙ is.month, same.2 ∙ is.day)

same_clock : (time : Time) (second : ℕ) → time_nanos time ≡ second * 1_000_000_000 →
    (time.hour ≡ second / 3600) × (time.minute ≡ second / 60 % 60) × (time.second ≡ second % 60) × (time.subsec_nanosecond ≡ 0)
same_clock time second e =
    let whole : (time.hour * 3600 + time.minute * 60 + time.second ≡ second) × (time.subsec_nanosecond ≡ 0) =
    (omega (arith, time.subsec_in), omega (arith, time.subsec_in)) in (
      omega (arith, whole.0, time.minute_in, time.second_in),
      omega (arith, whole.0, time.minute_in, time.second_in),
      omega (arith, whole.0, time.second_in),
      whole.1,
    )

same_parts : (shown : DateTime) (second : ℕ) → civil_nanos shown ≡ pos (second * 1_000_000_000) →
    (epoch_day shown.date ≡ pos (second / 86400)) × (time_nanos shown.time ≡ second % 86400 * 1_000_000_000)
same_parts shown second e =
    let parts = civil_nanos-parts shown in
    let bound = time_nanos_bound shown.time in
    (omega (arith, signed_arith, parts, bound, e), omega (arith, signed_arith, parts, bound, e))

-- the text that is printed for the instant
pub printed : (options : Bool × ℕ × Option ℕ) (shown : DateTime) (text : List ℕ) (time : ℕ) → options ≡ (false, 84, None) →
    civil_nanos shown ≡ pos (unix_second time * 1_000_000_000) → time < 4294967296 →
    text ≡ datetime_text options.0 options.1 options.2 shown ++ ((if options.0 then 122 else 90) ∷ []) → text ≡ date_text time
unfolding date_text
printed options shown text time plain is few stated =
    let parts = same_parts shown (unix_second time) is in
    let day = same_day shown.date (unix_second time / 86400) parts.0 (omega arith) in
    let clock = same_clock shown.time (unix_second time % 86400) parts.1 in
    stated ∙ rw (plain, day.0, day.1, day.2, clock.0, clock.1, clock.2, clock.3) refl
