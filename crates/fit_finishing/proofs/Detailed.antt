-- The closing messages with their details: a session with the sport of the file, and with cadence and ascent after its own fields, and an
-- activity message with the number of sessions.
use Rattle.std.proofs.Common.{◌≡◌, ℕ, ◌≤◌, Bool, true, false, List, [], ◌∷◌, ◌++◌, length, take, drop, map, refl, ap, ◌∙◌, sym, arith}
use Rattle.std.specs.Prelude.{sum_by, unwrap_or}
use Rattle.std.specs.Int.{bytes_low_first}
use Rattle.std.proofs.lemmas.Grind.{flat_map-append}
use Rattle.std.proofs.lemmas.List.{map-append, length-drop, take-append-le, drop-append-le}
use Rattle.std.proofs.lemmas.List.Sums.{sum_by-cons}
use Rattle.fit_base.specs.declared.order.Arch.{Arch}
use Rattle.fit_base.specs.declared.order.Arch.TheVariants.{Little}
use Rattle.fit_base.specs.Number.{low_first}
use Rattle.fit_base.specs.Value.{Numbers, values_of}
use Rattle.fit_base.proofs.Numbers.{low_first-written}
use Rattle.fit_grammar.specs.declared.definition.FieldDefinition.{FieldDefinition}
use Rattle.fit_grammar.specs.Format.Item.{native_definition}
use Rattle.fit_grammar.specs.Format.Message.{Message, MessageField, fields_of}
use Rattle.fit_activity.specs.declared.totals.summary.LapSummary.{LapSummary}
use Rattle.fit_activity.specs.declared.totals.summary.SessionSummary.{SessionSummary}
use Rattle.fit_activity.specs.declared.totals.summary.ActivitySummary.{ActivitySummary}
use Rattle.fit_activity.specs.Messages.SpokenMessage.{SpokenMessage}
use Rattle.fit_activity.specs.Messages.MessageBytes.{spelled, message_stated, IsWhole}
use Rattle.fit_activity.specs.Messages.ProfileField.{ProfileMessage, ProfileMessageFits, field_definition, field_content, as_definition, as_content, as_message}
use Rattle.fit_activity.specs.Messages.ProfileMessage.{event_message, stop_all_type, lap_message, session_end, session_message, activity_message}
use Rattle.fit_activity.specs.Messages.RideMessages.{stop_messages, closing_messages_of}
use Rattle.fit_finishing.specs.declared.details.Details.{Details}
use Rattle.fit_finishing.specs.declared.effort.EffortSummary.{EffortSummary}
use Rattle.fit_finishing.specs.declared.sport.SportStated.{SportStated}
use Rattle.fit_finishing.specs.Effort.{effort_message}
use Rattle.fit_finishing.specs.Details.{sport_message, sessions_message, in_place, with_fields, with_more, with_details, sport_place, sessions_place, restated, longer, speech_with}

-- ---- a session with cadence and ascent

abbrev pub extended : EffortSummary → ProfileMessage → ProfileMessage
extended effort p = record p { fields = p.fields ++ (effort_message effort).fields }

abbrev spelled_from : ProfileMessage → List FieldDefinition → List ℕ → SpokenMessage
spelled_from p fields content = record { definition = native_definition p.local Little p.global fields; content = content }

pub longer-spelled : (effort : EffortSummary) (p : ProfileMessage) → longer effort (spelled p) ≡ spelled (extended effort p)
longer-spelled effort p =
    let more = (effort_message effort).fields in
    ap (λ fields. spelled_from p fields (as_content p ++ as_content (effort_message effort))) (sym (map-append field_definition p.fields more))
    ∙ ap (spelled_from p (map field_definition (p.fields ++ more))) (sym (flat_map-append field_content p.fields more))

-- the fields of a content, and those of the content after it
fields-joined : (arch : Arch) (fields others : List FieldDefinition) (content more : List ℕ) → sum_by (λ field. field.size) fields ≡ length content
    → fields_of arch (fields ++ others) (content ++ more) ≡ fields_of arch fields content ++ fields_of arch others more
fields-joined arch [] others [] more whole = refl
fields-joined arch [] others (byte ∷ content) more whole = absurd (omega (arith, whole))
fields-joined arch (field ∷ fields) others content more whole =
    let total = sum_by-cons (λ (f : FieldDefinition). f.size) field fields in
    let short : field.size ≤ length content = omega (arith, whole, total) in
    let rest : sum_by (λ (f : FieldDefinition). f.size) fields ≡ length (drop field.size content) = omega (arith, whole, total, length-drop field.size content) in
    ap (λ bytes. read_first field bytes ∷ fields_of arch (fields ++ others) (drop field.size (content ++ more))) (take-append-le field.size content more short)
    ∙ ap (λ bytes. read_first field (take field.size content) ∷ fields_of arch (fields ++ others) bytes) (drop-append-le field.size content more short)
    ∙ ap (λ ms. read_first field (take field.size content) ∷ ms) (fields-joined arch fields others (drop field.size content) more rest)
  where
    read_first : FieldDefinition → List ℕ → MessageField
    read_first f bytes = record { number = f.number; base = f.base; values = values_of (record { base = f.base; arch = arch; bytes = bytes }) }

-- the three fields, read again
abbrev stated_field : ℕ → ℕ → ℕ → MessageField
stated_field number base value = record { number = number; base = base; values = Numbers (value ∷ []) }

abbrev stated_fields : ℕ → ℕ → ℕ → List MessageField
stated_fields average most ascent = stated_field 18 0x02 average ∷ stated_field 19 0x02 most ∷ stated_field 22 0x84 ascent ∷ []

effort-read : (effort : EffortSummary) → ProfileMessageFits (effort_message effort)
    → fields_of Little (as_definition (effort_message effort)).fields.items (as_content (effort_message effort)) ≡ (as_message (effort_message effort)).fields
effort-read effort fits =
    let average = unwrap_or effort.average_cadence 255 in
    let most = unwrap_or effort.greatest_cadence 255 in
    let ascent = unwrap_or effort.ascent 65535 in
    ap (λ n. stated_fields n (low_first (bytes_low_first 0 1 most)) (low_first (bytes_low_first 0 2 ascent))) (low_first-written average (bytes_low_first 0 1 average) fits.0.value)
    ∙ ap (λ n. stated_fields average n (low_first (bytes_low_first 0 2 ascent))) (low_first-written most (bytes_low_first 0 1 most) fits.1.0.value)
    ∙ ap (λ n. stated_fields average most n) (low_first-written ascent (bytes_low_first 0 2 ascent) fits.1.1.0.value)

abbrev message_from : ℕ → List MessageField → Message
message_from global fields = record { global = global; fields = fields; developer = [] }

longer-stated : (effort : EffortSummary) (p : ProfileMessage) → ProfileMessageFits (effort_message effort) → IsWhole (spelled p)
    → message_stated (longer effort (spelled p)) ≡ with_more (effort_message effort) (message_stated (spelled p))
longer-stated effort p fits whole =
    let own = (as_definition p).fields.items in
    let more = effort_message effort in
    ap (message_from p.global)
    (fields-joined Little own (as_definition more).fields.items (as_content p) (as_content more) (omega (arith, whole))
    ∙ ap (λ fields. fields_of Little own (as_content p) ++ fields) (effort-read effort fits))

-- ---- fields in place of those of the same numbers

abbrev changed : ProfileMessage → ProfileMessage → ProfileMessage
changed part p = record p { fields = map (in_place (λ field. field.number) part.fields) p.fields }

session-restated : (sport : SportStated) (session : SessionSummary)
    → restated sport_place (sport_message sport) (spelled (session_message session)) ≡ spelled (changed (sport_message sport) (session_message session))
session-restated sport session = refl

activity-restated : (sessions : ℕ) (activity : ActivitySummary)
    → restated sessions_place (sessions_message sessions) (spelled (activity_message activity)) ≡ spelled (changed (sessions_message sessions) (activity_message activity))
activity-restated sessions activity = refl

-- they are read again
abbrev sport_read : ℕ → ℕ → SessionSummary → Message
sport_read sport sub_sport session =
    with_fields (sport_message (record { sport = sport; sub_sport = sub_sport })) (message_stated (spelled (session_message session)))

session-stated : (sport : SportStated) (session : SessionSummary) → ProfileMessageFits (sport_message sport)
    → message_stated (spelled (changed (sport_message sport) (session_message session)))
    ≡ with_fields (sport_message sport) (message_stated (spelled (session_message session)))
session-stated s session fits =
    ap (λ n. sport_read n (low_first (bytes_low_first 0 1 s.sub_sport)) session) (low_first-written s.sport (bytes_low_first 0 1 s.sport) fits.0.value)
    ∙ ap (λ n. sport_read s.sport n session) (low_first-written s.sub_sport (bytes_low_first 0 1 s.sub_sport) fits.1.0.value)

activity-stated : (sessions : ℕ) (activity : ActivitySummary) → ProfileMessageFits (sessions_message sessions)
    → message_stated (spelled (changed (sessions_message sessions) (activity_message activity)))
    ≡ with_fields (sessions_message sessions) (message_stated (spelled (activity_message activity)))
activity-stated sessions activity fits =
    ap (λ n. with_fields (sessions_message n) (message_stated (spelled (activity_message activity)))) (low_first-written sessions (bytes_low_first 0 2 sessions) fits.0.value)

-- ---- all closing messages

abbrev pub session_detailed : Details → SessionSummary → ProfileMessage
session_detailed details session = extended details.effort (changed (sport_message details.sport) (session_message session))

abbrev pub activity_detailed : Details → ActivitySummary → ProfileMessage
activity_detailed details activity = changed (sessions_message details.sessions) (activity_message activity)

abbrev pub closing_changed : Details → Bool → ℕ → LapSummary → SessionSummary → ActivitySummary → List ProfileMessage
closing_changed details stopped time lap session activity =
    stop_messages stopped time ++ lap_message lap session_end ∷ session_detailed details session ∷ activity_detailed details activity ∷ []

pub closing-changed : (details : Details) (stopped : Bool) (time : ℕ) (lap : LapSummary) (session : SessionSummary) (activity : ActivitySummary)
    → speech_with details (map spelled (closing_messages_of stopped time lap session activity)) ≡ map spelled (closing_changed details stopped time lap session activity)
closing-changed details true time lap session activity =
    ap (λ m. spelled (lap_message lap session_end) ∷ m ∷ spelled (activity_detailed details activity) ∷ []) (longer-spelled details.effort (changed (sport_message details.sport) (session_message session)))
closing-changed details false time lap session activity =
    ap (λ m. spelled (event_message time stop_all_type) ∷ spelled (lap_message lap session_end) ∷ m ∷ spelled (activity_detailed details activity) ∷ [])
    (longer-spelled details.effort (changed (sport_message details.sport) (session_message session)))

-- what the details are read as
pub record DetailsFit (details : Details) : Type 0 where
  pub sport : ProfileMessageFits (sport_message details.sport)
  pub effort : ProfileMessageFits (effort_message details.effort)
  pub sessions : ProfileMessageFits (sessions_message details.sessions)

abbrev both_stated : Details → SessionSummary → ActivitySummary → List Message
both_stated details session activity =
    message_stated (longer details.effort (restated sport_place (sport_message details.sport) (spelled (session_message session))))
    ∷ message_stated (restated sessions_place (sessions_message details.sessions) (spelled (activity_message activity)))
    ∷ []

both-stated : (details : Details) (session : SessionSummary) (activity : ActivitySummary) → DetailsFit details
    → both_stated details session activity
    ≡ map (with_details details) (map message_stated (map spelled (session_message session ∷ activity_message activity ∷ [])))
both-stated details session activity fit =
    let own = changed (sport_message details.sport) (session_message session) in
    let last = message_stated (spelled (activity_detailed details activity)) in
    ap (λ m. m ∷ last ∷ []) (longer-stated details.effort own fit.effort refl)
    ∙ ap (λ m. with_more (effort_message details.effort) m ∷ last ∷ []) (session-stated details.sport session fit.sport)
    ∙ ap (λ m. with_details details (message_stated (spelled (session_message session))) ∷ m ∷ []) (activity-stated details.sessions activity fit.sessions)

pub closing-stated : (details : Details) (stopped : Bool) (time : ℕ) (lap : LapSummary) (session : SessionSummary) (activity : ActivitySummary) → DetailsFit details
    → map message_stated (speech_with details (map spelled (closing_messages_of stopped time lap session activity)))
    ≡ map (with_details details) (map message_stated (map spelled (closing_messages_of stopped time lap session activity)))
closing-stated details true time lap session activity fit =
    ap (λ ms. message_stated (spelled (lap_message lap session_end)) ∷ ms) (both-stated details session activity fit)
closing-stated details false time lap session activity fit =
    ap (λ ms. message_stated (spelled (event_message time stop_all_type)) ∷ message_stated (spelled (lap_message lap session_end)) ∷ ms) (both-stated details session activity fit)
