-- The room of a plan.
use Rattle.std.proofs.Common.{◌≡◌, ◌<◌, ◌≤◌, ◌-◌, ℕ, length, ap, arith}
use Rattle.fit_disk.specs.Counts.{Counts, Room, no_calls}
use Rattle.fit_disk.specs.Runs.{TakesRoom}
use Rattle.fit_plan.specs.declared.plan.Plan.{Plan}
use Rattle.fit_plan.specs.Plan.{plan_counts, room_in, whole_room, plan_log, most_planned_calls, most_planned_bytes}

-- a call that a plan has no room for takes none
pub refused : (bytes : ℕ) (Fails : Type 0) (old new : Plan) → room_in new ≡ room_in old
    → (length old.calls.calls.items < most_planned_calls → bytes ≤ most_planned_bytes - length old.calls.bytes.items → ⊥)
    → TakesRoom 1 bytes Fails (plan_log old) (plan_log new)
refused bytes Fails old new same short =
    let calls : (room_in new).calls ≡ (room_in old).calls = ap (λ (room : Room). room.calls) same in
    let more : (room_in new).bytes ≡ (room_in old).bytes = ap (λ (room : Room). room.bytes) same in
    record {
      went = λ counted has fits _. short (omega (arith, has)) fits;
      calls_left = omega (arith, calls);
      bytes_left = omega (arith, more);
    }

-- a plan without calls has room for as many as it can have
pub has_room : (most bytes : ℕ) (Fails : Type 0) (old new : Plan) → plan_counts old ≡ no_calls → room_in old ≡ whole_room
    → most ≤ most_planned_calls → bytes ≤ most_planned_bytes → TakesRoom most bytes Fails (plan_log old) (plan_log new) → Fails → ⊥
has_room most bytes Fails old new none room few short takes =
    let calls : (plan_counts old).calls ≡ 0 = ap (λ (counts : Counts). counts.calls) none in
    let for_calls : (room_in old).calls ≡ most_planned_calls = ap (λ (room : Room). room.calls) room in
    let for_bytes : (room_in old).bytes ≡ most_planned_bytes = ap (λ (room : Room). room.bytes) room in
    takes.went (omega (arith, calls, few)) (omega (arith, for_calls, few)) (omega (arith, for_bytes, short))
