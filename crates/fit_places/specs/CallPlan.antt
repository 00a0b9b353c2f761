-- Which calls of the place in memory fail.
use Rattle.std.specs.Prelude.{ℕ, ◌-◌, Bool, false, ◌==◌, ◌||◌, if◌then◌else◌, Option, None, Some}
use Rattle.fit_places.specs.declared.call_plan.CallPlan.{CallPlan}

-- the next call is the one
abbrev pub is_due : Option ℕ → Bool
is_due None = false
is_due (Some count) = count == 0

-- a call later; one call fails
abbrev pub after_call : Option ℕ → Option ℕ
after_call None = None
after_call (Some count) = if count == 0 then None else Some (count - 1)

-- a call later; all calls fail from this one on
abbrev pub after_cut : Option ℕ → Option ℕ
after_cut None = None
after_cut (Some count) = Some (count - 1)

-- the next call fails
abbrev pub must_fail : CallPlan → Bool
must_fail plan = is_due plan.fail || is_due plan.cut

-- the plan after a call
abbrev pub called : CallPlan → CallPlan
called plan = record { fail = after_call plan.fail; cut = after_cut plan.cut }

-- nothing is planned
abbrev pub no_plan : CallPlan
no_plan = record { fail = None; cut = None }
