-- A message adds at most one entry to what was heard, so the counts of a file fit.
use Rattle.std.proofs.Common.{◌≡◌, ℕ, ◌+◌, ◌≤◌, Bool, true, false, cond, List, [], ◌∷◌, ◌++◌, length, Option, Some, None, refl, ap, ◌∙◌, arith, length-append}
use Rattle.std.specs.List.{fold}
use Rattle.std.proofs.lemmas.List.Sums.{fold-append}
use Rattle.std.specs.Option.{is_none}
use Rattle.fit_grammar.specs.Format.Message.{Message}
use Rattle.fit_activity.specs.declared.recording.start.Sport.{Sport}
use Rattle.fit_activity.specs.declared.recording.entry.Entry.{Entry}
use Rattle.fit_activity.specs.declared.recording.entry.Entry.TheVariants.{Sample, Lap, Pause, Resume, Stop}
use Rattle.fit_activity.specs.Rides.Recording.{Recorded, Started, Added}
use Rattle.fit_activity.specs.Rides.Refusal.{refusal_of}
use Rattle.fit_finishing.specs.Entries.{entry_in}
use Rattle.fit_finishing.specs.Heard.{Heard, nothing_heard, with_one_left_out, added, settled_with, settled, is_idle, followed_by, start_by, starts, entry_heard_after, heard_if, message_heard, heard_as}
use Rattle.fit_finishing.specs.Private.Ride.{waiting, counted, start_due, held}

abbrev taken_if : Bool → Entry → Heard → Heard
taken_if b e h = cond b (record h { list = h.list ++ Added e ∷ [] }) (with_one_left_out h)

due-push : (list : List Recorded) (r : Recorded) → start_due (list ++ r ∷ []) ≡ 0
due-push [] r = refl
due-push (first ∷ list) r = refl

-- an entry is taken or left out
taken-counted : (b : Bool) (e : Entry) (h : Heard) → counted (taken_if b e h) ≡ counted h + 1
taken-counted true e h = omega (arith, length-append h.list (Added e ∷ []))
taken-counted false e h = omega arith

taken-lap : (b : Bool) (e : Entry) (h : Heard) → (taken_if b e h).lap ≡ h.lap
taken-lap true e h = refl
taken-lap false e h = refl

taken-due : (b : Bool) (e : Entry) (h : Heard) → start_due (taken_if b e h).list ≤ start_due h.list
taken-due true e h = omega (arith, due-push h.list (Added e))
taken-due false e h = omega arith

-- the lap that waits is then one of them
pub settled-counted : (lap : Option ℕ) (h : Heard) → counted (settled_with lap h) ≡ counted h + waiting lap
settled-counted None h = omega arith
settled-counted (Some time) h =
    let e : Entry = Lap time in
    let waits = record h { lap = None } in
    taken-counted (is_none (refusal_of h.list e)) e waits

settled-lap : (lap : Option ℕ) (h : Heard) → h.lap ≡ lap → (settled_with lap h).lap ≡ None
settled-lap None h same = same
settled-lap (Some time) h same = taken-lap (is_none (refusal_of h.list (Lap time))) (Lap time) (record h { lap = None })

settled-due : (lap : Option ℕ) (h : Heard) → start_due (settled_with lap h).list ≤ start_due h.list
settled-due None h = omega arith
settled-due (Some time) h = taken-due (is_none (refusal_of h.list (Lap time))) (Lap time) (record h { lap = None })

-- so one entry more is held
added-held : (e : Entry) (h : Heard) → held (added e (settled h)) ≤ held h + 1
added-held e h =
    let s = settled h in
    let b = is_none (refusal_of s.list e) in
    let lap : waiting (taken_if b e s).lap ≡ 0 = ap waiting (taken-lap b e s ∙ settled-lap h.lap h refl) in
    omega (arith, taken-counted b e s, settled-counted h.lap h, lap, taken-due b e s, settled-due h.lap h)

idle-held : (b : Bool) (e : Entry) (h : Heard) → held (cond b h (added e (settled h))) ≤ held h + 1
idle-held true e h = omega arith
idle-held false e h = added-held e h

followed-held : (e : Entry) (h : Heard) → held (followed_by e h) ≤ held h + 1
followed-held (Lap time) h = omega (arith, settled-counted h.lap h, settled-due h.lap h)
followed-held (Sample s) h = idle-held (is_idle h.list (Sample s)) (Sample s) h
followed-held (Pause time) h = idle-held (is_idle h.list (Pause time)) (Pause time) h
followed-held (Resume time) h = idle-held (is_idle h.list (Resume time)) (Resume time) h
followed-held (Stop time) h = idle-held (is_idle h.list (Stop time)) (Stop time) h

started-held : (b : Bool) (sport : Sport) (e : Entry) (h : Heard) → h.list ≡ []
    → held (cond b (followed_by e (record h { list = Started (start_by sport e) ∷ [] })) (with_one_left_out h)) ≤ held h + 1
started-held true sport e h none =
    let begun = record h { list = Started (start_by sport e) ∷ [] } in
    let due : start_due h.list ≡ 1 = ap start_due none in
    let empty : length h.list ≡ 0 = ap length none in
    omega (arith, followed-held e begun, due, empty)
started-held false sport e h none = omega arith

entry-held : (list : List Recorded) (sport : Sport) (e : Entry) (h : Heard) → h.list ≡ list → held (entry_heard_after list sport e h) ≤ held h + 1
entry-held [] sport e h none = started-held (starts sport e) sport e h none
entry-held (r ∷ list) sport e h same = followed-held e h

message-held : (o : Option Entry) (sport : Sport) (h : Heard) → held (heard_if sport o h) ≤ held h + 1
message-held None sport h = omega arith
message-held (Some e) sport h = entry-held h.list sport e h refl

fold-held : (sport : Sport) (h : Heard) (messages : List Message) → held (fold (message_heard sport) h messages) ≤ held h + length messages
fold-held sport h [] = omega arith
fold-held sport h (m ∷ messages) = omega (arith, fold-held sport (message_heard sport h m) messages, message-held (entry_in m) sport h)

pub heard-held : (sport : Sport) (messages : List Message) → held (heard_as sport messages) ≤ length messages + 1
heard-held sport messages = omega (arith, fold-held sport nothing_heard messages)

pub heard-push : (sport : Sport) (messages : List Message) (m : Message) → heard_as sport (messages ++ m ∷ []) ≡ message_heard sport (heard_as sport messages) m
heard-push sport messages m = fold-append (message_heard sport) nothing_heard messages (m ∷ [])

-- a message that gives no entry; and what was heard of a ride that began
pub none-given : {X : Type 0} (o : Option X) → ((x : X) → o ≡ Some x → ⊥) → None ≡ o
none-given None not = refl
none-given (Some x) not = absurd (not x refl)

pub begun-followed : (list : List Recorded) (sport : Sport) (e : Entry) (h : Heard) → 1 ≤ length list → entry_heard_after list sport e h ≡ followed_by e h
begun-followed [] sport e h some = absurd (omega (arith, some))
begun-followed (r ∷ list) sport e h some = refl
