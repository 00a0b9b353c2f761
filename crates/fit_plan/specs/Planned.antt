-- What planned calls do once they were carried out in order.
use Rattle.std.specs.Prelude.{ℕ, ◌<◌, ◌≤◌, List, length, take, drop}
use Rattle.std.specs.List.{fold, HoldsAt}
use Rattle.fit_disk.specs.Story.{Story, seen_of}
use Rattle.fit_plan.specs.declared.calls.Call.{Call}
use Rattle.fit_plan.specs.declared.calls.Calls.{Calls}
use Rattle.fit_plan.specs.Carried.{which_of, carried}

-- the bytes of a call among those of the plan
abbrev pub call_bytes : List ℕ → Call → List ℕ
call_bytes bytes call = take call.count (drop call.start bytes)

-- the story after one more call
abbrev pub done_by : List ℕ → Story → Call → Story
done_by bytes story call =
    carried call.kind (which_of call.file) call.at (call_bytes bytes call) story

-- the story after all of them
abbrev pub planned : Calls → Story → Story
planned calls since = fold (done_by calls.bytes.items) since calls.calls.items

-- the call begins inside its file: so a write leaves no gap there, and a cut does not lengthen it
abbrev pub BeginsInside : Story → Call → Type 0
BeginsInside story call = call.at ≤ length (seen_of (which_of call.file) story)

-- so does each of these, over the files that those before it leave
abbrev pub AllInside : List ℕ → Story → List Call → Type 0
AllInside bytes story calls =
    (k : ℕ) → k < length calls
    → HoldsAt (BeginsInside (fold (done_by bytes) story (take k calls))) calls k

abbrev pub AreInside : Calls → Story → Type 0
AreInside calls since = AllInside calls.bytes.items since calls.calls.items
