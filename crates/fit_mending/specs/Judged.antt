-- What an item says after others: by its form, its times and its values.
use Rattle.std.specs.Prelude.{ℕ, ◌+◌, true, false, List, Option, Some, None, min, nat_lt, ◌==◌, ◌&&◌, ◌||◌, if◌then◌else◌}
use Rattle.fit_grammar.specs.declared.definition.Definition.{Definition}
use Rattle.fit_grammar.specs.Format.Item.{Item, Defines, Data}
use Rattle.fit_grammar.specs.Format.Message.{MessageField, compressed_time, message_under}
use Rattle.fit_grammar.specs.Calls.LentMessage.{LentMessage}
use Rattle.fit_mending.specs.declared.clock.Clock.{Clock}
use Rattle.fit_mending.specs.declared.clock.Sign.{Sign}
use Rattle.fit_mending.specs.declared.clock.Sign.TheVariants.{Doubtful, Nothing, Weak, Strong}
use Rattle.fit_mending.specs.declared.progress.Progress.{Progress}
use Rattle.fit_mending.specs.declared.values.Change.{Change}
use Rattle.fit_mending.specs.declared.values.Change.TheVariants.{Unknown, Usual, Large, Impossible}
use Rattle.fit_mending.specs.declared.values.Values.{Values}
use Rattle.fit_mending.specs.Form.{begins_compressed, begins_reserved, blank, is_usual}
use Rattle.fit_mending.specs.Moves.{changed_from, values_after}
use Rattle.fit_mending.specs.Times.{Heard, heard}

-- the message of an item under these definitions, after a time
abbrev pub message_with : Option Definition → Option ℕ → List ℕ → Option LentMessage
message_with None time content = None
message_with (Some d) time content =
    Some (record { compressed = time; message = message_under d time content })

abbrev pub message_by : (ℕ → Option Definition) → ℕ → Item → Option LentMessage
message_by definition_for time (Defines d) = None
message_by definition_for time (Data local offset content) =
    message_with (definition_for local) (compressed_time time offset) content

-- what an item says, and the progress after it
pub record Judgement : Type 0 where
  pub sign : Sign
  pub progress : Progress

abbrev pub judged_with : Sign → Progress → Judgement
judged_with sign progress = record { sign = sign; progress = progress }

-- before any item
abbrev pub no_times : Clock
no_times = record { last = 0; of_record = None; latest = None; may_leap = false }

abbrev pub no_values : Values
no_values = record { distance = None; latitude = None; longitude = None }

abbrev pub nothing : Progress
nothing = record { clock = no_times; values = no_values; records = 0; is_guessed = false }

-- where a ride begins anew, distances and positions do, and the time may leap; before 64 records it may fall too
abbrev pub anew : Progress → Progress
anew progress =
    if nat_lt progress.records 64
    then record { clock = no_times; values = no_values; records = 0; is_guessed = progress.is_guessed }
    else record {
      clock = record progress.clock { may_leap = true };
      values = no_values;
      records = progress.records;
      is_guessed = progress.is_guessed;
    }

-- values that go on as usual make a weak sign strong, and a large change is doubtful
abbrev pub sign_by : Change → Sign → Option Sign
sign_by Unknown sign = Some sign
sign_by Usual Weak = Some Strong
sign_by Usual sign = Some sign
sign_by Large sign = Some Doubtful
sign_by Impossible sign = None

-- a record
abbrev pub moved_with : Progress → Option Sign → Option Judgement
moved_with progress None = None
moved_with progress (Some sign) = Some (judged_with sign progress)

abbrev pub moved_to : Progress → List MessageField → Progress
moved_to progress fields = record {
  clock = progress.clock;
  values = values_after progress.values progress.clock.last fields;
  records = min (progress.records + 1) 4294967295;
  is_guessed = progress.is_guessed;
}

abbrev pub moved : Progress → List MessageField → Sign → Option Judgement
moved progress fields sign =
    moved_with (moved_to progress fields) (sign_by (changed_from Unknown progress.values progress.clock.last fields) sign)

-- a lap or a session may end a leg of several sports: after it the distance may begin anew
abbrev pub values_beside : Values → ℕ → Values
values_beside values global = if (global == 18) || (global == 19) then record values { distance = None } else values

-- a message that was heard
abbrev pub judged_after : Progress → LentMessage → Option Heard → Option Judgement
judged_after progress m None = None
judged_after progress m (Some now) =
    if m.message.global == 20 then moved (record progress { clock = now.clock }) m.message.fields now.sign
    else Some (judged_with now.sign (record progress { clock = now.clock; values = values_beside progress.values m.message.global }))

-- an item of these bytes, by its message; a definition has none. None of it is judged if it is a fault: a definition that no device
-- writes, a reserved bit, an erased stretch, a file_id (message 0) after a record, a time that falls or leaps, or a distance or a position
-- that cannot be.
abbrev pub judged : Progress → Option LentMessage → List ℕ → Option Judgement
judged progress None bytes = if is_usual bytes then Some (judged_with Nothing progress) else None
judged progress (Some m) bytes =
    if begins_reserved bytes || blank bytes || ((m.message.global == 0) && nat_lt 0 progress.records) then None
    else judged_after progress m (heard progress.clock m (begins_compressed bytes))
