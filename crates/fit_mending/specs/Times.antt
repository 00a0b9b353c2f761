-- The times of items: how one goes on after others, and what it says.
use Rattle.std.specs.Prelude.{ℕ, ◌-◌, Bool, true, false, List, [], ◌∷◌, Option, Some, None, max, not, unwrap_or, nat_lt, ◌==◌, ◌&&◌, if◌then◌else◌}
use Rattle.fit_grammar.specs.Format.Message.{MessageField}
use Rattle.fit_grammar.specs.Calls.LentMessage.{LentMessage, lent_time}
use Rattle.fit_mending.specs.declared.clock.Clock.{Clock}
use Rattle.fit_mending.specs.declared.clock.Sign.{Sign}
use Rattle.fit_mending.specs.declared.clock.Sign.TheVariants.{Doubtful, Nothing, Weak, Strong}

-- what a message says, and the times after it
pub record Heard : Type 0 where
  pub sign : Sign
  pub clock : Clock

abbrev pub heard_with : Sign → Clock → Heard
heard_with sign clock = record { sign = sign; clock = clock }

-- the time before a message: for a record that of the last one, if there is one, or else the latest time
abbrev pub before_by : Option ℕ → ℕ → Bool → ℕ
before_by (Some ridden) latest true = ridden
before_by _ latest _ = latest

abbrev pub before_of : Clock → ℕ → Bool → ℕ
before_of clock latest is_record = before_by clock.of_record latest is_record

-- a time that leaps by more than two minutes is doubtful in a record, and a weak sign in another message; a later time is a strong one
abbrev pub stated_after : Clock → ℕ → Bool → Option ℕ → Sign
stated_after clock time is_record None = Strong
stated_after clock time is_record (Some latest) =
    if not clock.may_leap && nat_lt 120 (time - before_of clock latest is_record) then (if is_record then Doubtful else Weak)
    else if nat_lt clock.last time then Strong
    else Nothing

abbrev pub stated_sign : Clock → ℕ → Bool → Sign
stated_sign clock time is_record = stated_after clock time is_record clock.latest

-- a time falls if a record's is before that of the last record, or another's more than a day before the latest
abbrev pub falls : Option ℕ → ℕ → ℕ → Bool → Bool
falls (Some ridden) latest time true = nat_lt time ridden
falls _ latest time _ = nat_lt 86400 (latest - time)

-- no time falls, nor leaps by more than a day where it may not
abbrev pub may_come : Clock → ℕ → ℕ → Bool → Bool
may_come clock latest time is_record =
    not (not clock.may_leap && nat_lt 86400 (time - latest)) && not (falls clock.of_record latest time is_record)

abbrev pub may_follow : Clock → ℕ → Bool → Bool
may_follow clock time is_record = may_come clock (unwrap_or clock.latest time) time is_record

abbrev pub set_to : Clock → ℕ → Bool → Clock
set_to clock time is_record =
    record clock {
      last = time;
      of_record = if is_record then Some time else clock.of_record;
      latest = Some (max (unwrap_or clock.latest time) time);
    }

-- a message that states a time in a field
abbrev pub heard_stated : Clock → ℕ → Bool → Option Heard
heard_stated clock time is_record =
    if may_follow clock time is_record
    then Some (heard_with (stated_sign clock time is_record) (record (set_to clock time is_record) { may_leap = false }))
    else None

-- a compressed timestamp is a weak sign, unless it is in the same second
abbrev pub compressed_after : Clock → ℕ → Option Heard
compressed_after clock time =
    if may_follow clock time true
    then Some (heard_with (if nat_lt clock.last time then Weak else Nothing) (set_to clock time true))
    else None

-- a message with a compressed timestamp; before the first time it says nothing, and other messages than records have none
abbrev pub heard_by : Option ℕ → Clock → ℕ → Bool → Option Heard
heard_by None clock time is_record = Some (heard_with Nothing clock)
heard_by (Some latest) clock time is_record =
    if is_record then compressed_after clock time else Some (heard_with Doubtful clock)

abbrev pub heard_compressed : Clock → ℕ → Bool → Option Heard
heard_compressed clock time is_record = heard_by clock.latest clock time is_record

-- two fields state the time
abbrev pub states_more : Bool → List MessageField → Bool
states_more found [] = false
states_more found (field ∷ fields) =
    if field.number == 253 then (if found then true else states_more true fields) else states_more found fields

abbrev pub states_twice : List MessageField → Bool
states_twice fields = states_more false fields

-- a message; one without a time says nothing
abbrev pub heard_at : Option ℕ → Clock → LentMessage → Bool → Option Heard
heard_at None clock m is_compressed = Some (heard_with Nothing clock)
heard_at (Some time) clock m false = heard_stated clock time (m.message.global == 20)
heard_at (Some time) clock m true =
    if states_twice m.message.fields then None else heard_compressed clock time (m.message.global == 20)

abbrev pub heard : Clock → LentMessage → Bool → Option Heard
heard clock m is_compressed = heard_at (lent_time m) clock m is_compressed
