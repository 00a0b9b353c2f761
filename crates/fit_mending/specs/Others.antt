-- Other rides in bytes that are left out.
use Rattle.std.specs.Prelude.{◌≡◌, ℕ, ◌+◌, ◌-◌, ◌<◌, ◌≤◌, Bool, true, false, List, [], ◌∷◌, ◌++◌, length, take, drop, Option, Some, None, unwrap_or, nat_lt, ◌==◌, if◌then◌else◌}
use Rattle.fit_grammar.specs.declared.definition.Definition.{Definition}
use Rattle.fit_grammar.specs.Format.Item.{Item}
use Rattle.fit_grammar.specs.Format.Records.{Records, in_force}
use Rattle.fit_grammar.specs.Calls.LentMessage.{LentMessage, lent_time}
use Rattle.fit_grammar.specs.Calls.Step.{ItemAtFront}
use Rattle.fit_grammar.specs.Calls.Table.{in_force_after}
use Rattle.fit_mending.specs.declared.pieces.Piece.{Piece}
use Rattle.fit_mending.specs.declared.pieces.Skipped.{Skipped}
use Rattle.fit_mending.specs.declared.rides.Followed.{Followed}
use Rattle.fit_mending.specs.Judged.{message_by}
use Rattle.fit_mending.specs.Pieces.{AreItems, piece_bytes}

-- before any message
abbrev pub nothing_followed : Followed
nothing_followed = record { start = 0; time = 0; records = 0 }

-- the messages with a record of this time, if that is a date, and no earlier than the last time nor later by more than a day
abbrev pub followed_record : Followed → ℕ → Option Followed
followed_record so_far time =
    if nat_lt time 268435456 then None
    else if so_far.records == 0 then Some (record { start = time; time = time; records = 1 })
    else if nat_lt time so_far.time then None
    else if nat_lt 86400 (time - so_far.time) then None
    else Some (record { start = so_far.start; time = time; records = so_far.records + 1 })

-- the same with another message, if a record came before it, whose time is not more than a day from the last one
abbrev pub followed_to : Followed → ℕ → Option Followed
followed_to so_far time =
    if nat_lt 86400 (time - so_far.time) then None
    else if nat_lt 86400 (so_far.time - time) then None
    else Some (record { start = so_far.start; time = time; records = so_far.records })

abbrev pub followed_other : Followed → Option ℕ → Option Followed
followed_other so_far time =
    if so_far.records == 0 then None else followed_to so_far (unwrap_or time so_far.time)

-- the same with a message that is a record or not, and has this time or none
abbrev pub followed_at : Followed → Bool → Option ℕ → Option Followed
followed_at so_far true (Some time) = followed_record so_far time
followed_at so_far _ time = followed_other so_far time

-- the same with the message of an item; a definition has none
abbrev pub followed_message : Followed → Option LentMessage → Option Followed
followed_message so_far None = Some so_far
followed_message so_far (Some m) = followed_at so_far (m.message.global == 20) (lent_time m)

-- at least eight records, and a last time that is at least eight seconds after the first of them
pub record IsRide (so_far : Followed) : Type 0 where
  pub many : 8 ≤ so_far.records
  pub long : so_far.start + 8 ≤ so_far.time

-- under these definitions, the bytes begin with these items, one after another, and with their messages it is a ride that starts at
-- this time
abbrev pub IsRideWith : (ℕ → Option Definition) → Followed → List ℕ → List Item → ℕ → Type 0
IsRideWith definition_for so_far bytes [] time = IsRide so_far × (so_far.start ≡ time)
IsRideWith definition_for so_far bytes (item ∷ items) time =
    (used : ℕ) × (more : Followed) × ItemAtFront definition_for bytes item used
    × (followed_message so_far (message_by definition_for so_far.time item) ≡ Some more)
    × IsRideWith (in_force_after item definition_for) more (drop used bytes) items time

-- so many items at most are enough
abbrev pub GoesOn : ℕ → (ℕ → Option Definition) → Followed → List ℕ → ℕ → Type 0
GoesOn most definition_for so_far bytes time =
    (items : List Item) × (length items ≤ most) × IsRideWith definition_for so_far bytes items time

-- Under these definitions a ride begins at the front of the bytes: eight records or more among 24 items at most, one after another, none
-- with an earlier time than the one before it, and no time more than a day from the one before it. The first message is one of them.
abbrev pub BeginsRide : (ℕ → Option Definition) → List ℕ → ℕ → Type 0
BeginsRide definition_for bytes time = GoesOn 24 definition_for nothing_followed bytes time

-- the time at which the first ride in the bytes starts, or none if there is no ride in them
abbrev pub IsFirstRide : (ℕ → Option Definition) → List ℕ → Option ℕ → Type 0
IsFirstRide definition_for bytes None =
    (at time : ℕ) → at < length bytes → BeginsRide definition_for (drop at bytes) time → ⊥
IsFirstRide definition_for bytes (Some time) =
    (at : ℕ) × (at < length bytes) × BeginsRide definition_for (drop at bytes) time
    × ((earlier other : ℕ) → earlier < at → BeginsRide definition_for (drop earlier bytes) other → ⊥)

-- a ride that starts more than a day before one's own, and ten years at most, is another; times of one ride are not so far apart
abbrev pub if_earlier : Option ℕ → Option ℕ → Option ℕ
if_earlier (Some own) (Some time) =
    if nat_lt 86400 (own - time) then (if nat_lt 315576000 (own - time) then None else Some time) else None
if_earlier _ _ = None

-- what is said of a piece after these items: of one that is left out, when another ride starts in it
abbrev pub IsOther : Bool → List Item → Option ℕ → List ℕ → Option ℕ → Type 0
IsOther true before own bytes other = other ≡ None
IsOther false before own bytes other =
    (first : Option ℕ) × IsFirstRide (in_force before) bytes first × (other ≡ if_earlier own first)

-- the same of each piece, in order, after the kept ones before it
abbrev pub AreOthers : List ℕ → Option ℕ → List Item → List Piece → List (Option ℕ) → Type 0
AreOthers bytes own before [] others = others ≡ []
AreOthers bytes own before (piece ∷ pieces) others =
    (other : Option ℕ) × (more : List (Option ℕ)) × (items : List Item) × (others ≡ other ∷ more)
    × AreItems piece.kept before (piece_bytes bytes piece) items
    × IsOther piece.kept before own (piece_bytes bytes piece) other
    × AreOthers bytes own (before ++ items) pieces more

-- in how many bytes of what is kept one's own ride begins
abbrev pub own_front : ℕ
own_front = 65536

-- the other rides in what is left out, by the first one in the front of the row of what is kept, if this is known before the bytes
pub record FindsOthers (known bytes : List ℕ) (skipped : Skipped) : Type 0 where
  pub own : Option ℕ
  pub is_own : IsFirstRide (in_force []) (take own_front skipped.row.items) own
  pub are : (before : List Item) → Records known before
      → AreOthers bytes own before skipped.pieces.items skipped.others.items
