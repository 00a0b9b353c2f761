-- A finished file is a file: what is added to it fits into its bytes, and each message comes after its definition.
use Rattle.std.proofs.Common.{◌≡◌, ℕ, ◌+◌, ◌<◌, ◌≤◌, ◌^◌, Bool, true, false, cond, List, [], ◌∷◌, ◌++◌, length, map, None, refl, sym, ap, ◌∙◌, subst, arith, append_assoc, append-nil}
use Rattle.std.specs.Prelude.{zero, suc, flat_map, IsSomeAnd}
use Rattle.std.specs.Int.{byte_at, bytes_low_first}
use Rattle.std.specs.List.{AllByRecursion}
use Rattle.std.proofs.lemmas.List.{length-map}
use Rattle.std.proofs.lemmas.List.Sums.{sum_by-append}
use Rattle.fit_base.specs.declared.base.BaseType.{BaseType}
use Rattle.fit_base.specs.declared.base.BaseType.TheVariants.{Enum, Sint8, Uint8, Sint16, Uint16, Sint32, Uint32, String, Float32, Float64, Uint8z, Uint16z, Uint32z, Byte, Sint64, Uint64, Uint64z}
use Rattle.fit_base.specs.Base.{row_of}
use Rattle.fit_grammar.specs.declared.definition.FieldDefinition.{FieldDefinition}
use Rattle.fit_grammar.specs.Format.Item.{Item, Defines, Data, content_size, item_size}
use Rattle.fit_grammar.specs.Format.Records.{data_size}
use Rattle.fit_grammar.specs.Format.File.{FileValue}
use Rattle.fit_grammar.specs.Calls.Extended.{with_items}
use Rattle.fit_grammar.specs.Calls.Possible.{FieldFits, DefinitionFits, CanFollow, AllCanFollow, CanBeFile}
use Rattle.fit_grammar.proofs.KeptRow.InForce.{in_force-defines}
use Rattle.fit_activity.specs.Rides.Recording.{Recorded}
use Rattle.fit_activity.specs.Rides.Refusal.{has_stopped}
use Rattle.fit_activity.specs.Rides.Stretch.{end_time, lap_of, activity_of}
use Rattle.fit_activity.specs.Messages.SpokenMessage.{SpokenMessage}
use Rattle.fit_activity.specs.Messages.ProfileField.{ProfileMessage, field_definition, field_content}
use Rattle.fit_activity.specs.Messages.ProfileMessage.{file_id_message, event_message, stop_all_type, lap_message, session_end, session_message, activity_message}
use Rattle.fit_activity.specs.declared.totals.summary.LapSummary.{LapSummary}
use Rattle.fit_activity.specs.declared.totals.summary.SessionSummary.{SessionSummary}
use Rattle.fit_activity.specs.declared.totals.summary.ActivitySummary.{ActivitySummary}
use Rattle.fit_activity.specs.Messages.MessageBytes.{spelled, message_stated, IsWhole, speech_size}
use Rattle.fit_activity.specs.Messages.RideMessages.{closing_messages_of, closing_profile_messages_with, session_with}
use Rattle.fit_finishing.specs.declared.closing.Lacks.{Lacks}
use Rattle.fit_finishing.specs.declared.details.Details.{Details}
use Rattle.fit_finishing.specs.Details.{CanBeDetailed, speech_with}
use Rattle.fit_finishing.specs.Lacking.{is_lacking, with_definition, added_items}
use Rattle.fit_finishing.proofs.Added.{still-in_force}
use Rattle.fit_finishing.proofs.Detailed.{session_detailed, activity_detailed, closing_changed, closing-changed}

-- ---- a spelled message fits

pub record FitsMessage (m : SpokenMessage) : Type 0 where
  pub local : m.definition.local < 16
  pub definition : DefinitionFits m.definition
  pub content : AllByRecursion (λ byte. byte < 256) m.content

byte-below : (i n : ℕ) → byte_at i n < 256
byte-below zero n = omega arith
byte-below (suc i) n = omega arith

bytes-below : (i k n : ℕ) → AllByRecursion (λ byte. byte < 256) (bytes_low_first i k n)
bytes-below i zero n = tt
bytes-below i (suc k) n = (byte-below i n, bytes-below (suc i) k n)

both-below : (xs ys : List ℕ) → AllByRecursion (λ byte. byte < 256) xs → AllByRecursion (λ byte. byte < 256) ys
    → AllByRecursion (λ byte. byte < 256) (xs ++ ys)
both-below [] ys a b = b
both-below (x ∷ xs) ys a b = (a.0, both-below xs ys a.1 b)

content-below : {A : Type 0} (content : A → List ℕ) → ((x : A) → AllByRecursion (λ byte. byte < 256) (content x)) → (fields : List A)
    → AllByRecursion (λ byte. byte < 256) (flat_map content fields)
content-below content each [] = tt
content-below content each (field ∷ fields) =
    both-below (content field) (flat_map content fields) (each field) (content-below content each fields)

record BaseFits (base : BaseType) : Type 0 where
  size : (row_of base).size < 256
  code : (row_of base).code < 256

base-fits : (base : BaseType) → BaseFits base
base-fits Enum = record { size = omega arith; code = omega arith }
base-fits Sint8 = record { size = omega arith; code = omega arith }
base-fits Uint8 = record { size = omega arith; code = omega arith }
base-fits Sint16 = record { size = omega arith; code = omega arith }
base-fits Uint16 = record { size = omega arith; code = omega arith }
base-fits Sint32 = record { size = omega arith; code = omega arith }
base-fits Uint32 = record { size = omega arith; code = omega arith }
base-fits String = record { size = omega arith; code = omega arith }
base-fits Float32 = record { size = omega arith; code = omega arith }
base-fits Float64 = record { size = omega arith; code = omega arith }
base-fits Uint8z = record { size = omega arith; code = omega arith }
base-fits Uint16z = record { size = omega arith; code = omega arith }
base-fits Uint32z = record { size = omega arith; code = omega arith }
base-fits Byte = record { size = omega arith; code = omega arith }
base-fits Sint64 = record { size = omega arith; code = omega arith }
base-fits Uint64 = record { size = omega arith; code = omega arith }
base-fits Uint64z = record { size = omega arith; code = omega arith }

fields-fit : {A : Type 0} (definition : A → FieldDefinition) (number : A → ℕ) → ((x : A) → number x < 256 → FieldFits (definition x))
    → (fields : List A) → AllByRecursion (λ x. number x < 256) fields → AllByRecursion FieldFits (map definition fields)
fields-fit definition number each [] are = tt
fields-fit definition number each (field ∷ fields) are = (each field are.0, fields-fit definition number each fields are.1)

-- each field has a number of one byte
abbrev AreNumbered : ProfileMessage → Type 0
AreNumbered m = AllByRecursion (λ field. field.number < 256) m.fields

fits-spelled : (m : ProfileMessage) → m.local < 16 → m.global < 65536 → length m.fields < 256 → AreNumbered m → FitsMessage (spelled m)
fits-spelled m local global few are = record {
  local = local;
  definition = record {
    global = global;
    count = omega (arith, few, length-map m.fields field_definition);
    fields = fields-fit field_definition (λ field. field.number)
        (λ field is.
        let base = base-fits field.base in
        record { number = is; size = base.size; base = base.code })
        m.fields are;
    developer_count = omega arith;
    developer = tt;
  };
  content = content-below field_content (λ field. bytes-below 0 (row_of field.base).size field.value) m.fields;
}

-- what is added can be written, and has at most so many bytes
pub record FitsSpeech (speech : List SpokenMessage) (most : ℕ) : Type 0 where
  pub fit : AllByRecursion FitsMessage speech
  pub whole : AllByRecursion IsWhole speech
  pub size : speech_size speech ≤ most

module _ (details : Details) (time : ℕ) (lap : LapSummary) (session : SessionSummary) (activity : ActivitySummary) where
  event-fits : FitsMessage (spelled (event_message time stop_all_type))
  event-fits = fits-spelled (event_message time stop_all_type) (omega arith) (omega arith) (omega arith) (omega arith, (omega arith, (omega arith, tt)))

  lap-fits : FitsMessage (spelled (lap_message lap session_end))
  lap-fits = fits-spelled (lap_message lap session_end) (omega arith) (omega arith) (omega arith)
      (omega arith, (omega arith, (omega arith, (omega arith, (omega arith, (omega arith, (omega arith, (omega arith, (omega arith, (omega arith, (omega arith, (omega arith, (omega arith, (omega arith, (omega arith, tt)))))))))))))))

  session-fits : FitsMessage (spelled (session_detailed details session))
  session-fits = fits-spelled (session_detailed details session) (omega arith) (omega arith) (omega arith)
      (omega arith, (omega arith, (omega arith, (omega arith, (omega arith, (omega arith, (omega arith, (omega arith, (omega arith, (omega arith, (omega arith, (omega arith, (omega arith, (omega arith, (omega arith, (omega arith, (omega arith, (omega arith, (omega arith, (omega arith, (omega arith, (omega arith, tt))))))))))))))))))))))

  activity-fits : FitsMessage (spelled (activity_detailed details activity))
  activity-fits = fits-spelled (activity_detailed details activity) (omega arith) (omega arith) (omega arith) (omega arith, (omega arith, (omega arith, (omega arith, (omega arith, (omega arith, tt))))))

  changed-fit : (stopped : Bool) → FitsSpeech (map spelled (closing_changed details stopped time lap session activity)) 265
  changed-fit true = record {
    fit = (lap-fits, (session-fits, (activity-fits, tt)));
    whole = (refl, (refl, (refl, tt)));
    size = omega arith;
  }
  changed-fit false = record {
    fit = (event-fits, (lap-fits, (session-fits, (activity-fits, tt))));
    whole = (refl, (refl, (refl, (refl, tt))));
    size = omega arith;
  }

pub closing-fits : (details : Details) (laps : ℕ) (list : List Recorded) (speech : List SpokenMessage) → speech ≡ map spelled (closing_profile_messages_with laps list)
    → FitsSpeech (speech_with details speech) 265
closing-fits details laps list speech is =
    let session = session_with laps list in
    let same = ap (speech_with details) is ∙ closing-changed details (has_stopped list) (end_time list) (lap_of list) session (activity_of list) in
    subst (λ xs. FitsSpeech xs 265) (sym same) (changed-fit details (end_time list) (lap_of list) session (activity_of list) (has_stopped list))

pub opening-fits : (details : Details) (time serial : ℕ) (speech : List SpokenMessage) → speech ≡ spelled (file_id_message time serial) ∷ []
    → FitsSpeech (speech_with details speech) 35
opening-fits details time serial speech is =
    let own = spelled (file_id_message time serial) ∷ [] in
    let fits : FitsSpeech own 35 = record {
      fit = (fits-spelled (file_id_message time serial) (omega arith) (omega arith) (omega arith) (omega arith, (omega arith, (omega arith, (omega arith, (omega arith, tt))))), tt);
      whole = (refl, tt);
      size = omega arith;
    } in
    subst (λ xs. FitsSpeech xs 35) (sym (ap (speech_with details) is)) fits

-- the messages have the bytes in which their details are written
module _ (time : ℕ) (lap : LapSummary) (session : SessionSummary) (activity : ActivitySummary) where
  event-can : CanBeDetailed (spelled (event_message time stop_all_type))
  event-can = record { local = omega arith; short = omega arith; session = λ is. absurd (omega (arith, is)); activity = λ is. absurd (omega (arith, is)) }

  lap-can : CanBeDetailed (spelled (lap_message lap session_end))
  lap-can = record { local = omega arith; short = omega arith; session = λ is. absurd (omega (arith, is)); activity = λ is. absurd (omega (arith, is)) }

  session-can : CanBeDetailed (spelled (session_message session))
  session-can = record { local = omega arith; short = omega arith; session = λ is. omega arith; activity = λ is. absurd (omega (arith, is)) }

  activity-can : CanBeDetailed (spelled (activity_message activity))
  activity-can = record { local = omega arith; short = omega arith; session = λ is. absurd (omega (arith, is)); activity = λ is. omega arith }

  all-can : (stopped : Bool) → AllByRecursion CanBeDetailed (map spelled (closing_messages_of stopped time lap session activity))
  all-can true = (lap-can, (session-can, (activity-can, tt)))
  all-can false = (event-can, (lap-can, (session-can, (activity-can, tt))))

pub closing-can : (laps : ℕ) (list : List Recorded) (speech : List SpokenMessage) → speech ≡ map spelled (closing_profile_messages_with laps list)
    → AllByRecursion CanBeDetailed speech
closing-can laps list speech is =
    subst (AllByRecursion CanBeDetailed) (sym is) (all-can (end_time list) (lap_of list) (session_with laps list) (activity_of list) (has_stopped list))

pub opening-can : (time serial : ℕ) (speech : List SpokenMessage) → speech ≡ spelled (file_id_message time serial) ∷ [] → AllByRecursion CanBeDetailed speech
opening-can time serial speech is =
    let one : CanBeDetailed (spelled (file_id_message time serial)) =
    record { local = omega arith; short = omega arith; session = λ is. absurd (omega (arith, is)); activity = λ is. absurd (omega (arith, is)) } in
    subst (AllByRecursion CanBeDetailed) (sym is) (one, tt)

-- ---- what is added can stand where it is added

pub added-follow : (lacks : Lacks) (before : List Item) (speech : List SpokenMessage) → AllByRecursion FitsMessage speech
    → AllByRecursion IsWhole speech → AllCanFollow before (added_items lacks speech)
added-follow lacks before [] fit whole = tt
added-follow lacks before (m ∷ speech) fit whole =
    go (is_lacking lacks (message_stated m)) (λ others. added-follow lacks others speech fit.1 whole.1)
  where
    go : (b : Bool) → ((others : List Item) → AllCanFollow others (added_items lacks speech))
        → AllCanFollow before (cond b (with_definition m) [] ++ added_items lacks speech)
    go false rest = rest before
    go true rest =
        let defines : Item = Defines m.definition in
        let message : Item = Data m.definition.local None m.content in (
          record { encodable = fit.0.local; fits = fit.0.definition; defined = tt },
          (
            record {
              encodable = fit.0.local;
              fits = fit.0.content;
              defined = subst (λ o. IsSomeAnd o (λ d. content_size d ≡ length m.content)) (sym (in_force-defines before m.definition)) whole.0;
            },
            rest ((before ++ defines ∷ []) ++ message ∷ []),
          ),
        )

-- items after others
more-follow : (first before items : List Item) → AllCanFollow before items → AllCanFollow (first ++ before) items
more-follow first before [] can = tt
more-follow first before (item ∷ items) can = (
  one item can.0,
  subst (λ (l : List Item). AllCanFollow l items) (sym (append_assoc first before (item ∷ []))) (more-follow first (before ++ item ∷ []) items can.1),
)
  where
    one : (item : Item) → CanFollow before item → CanFollow (first ++ before) item
    one (Defines d) is = record { encodable = is.encodable; fits = is.fits; defined = tt }
    one (Data local offset content) is = record {
      encodable = is.encodable;
      fits = is.fits;
      defined = subst (λ o. IsSomeAnd o (λ d. content_size d ≡ length content)) (sym (still-in_force (λ d. content_size d ≡ length content) first before local is.defined)) is.defined;
    }

joined-follow : (before items more : List Item) → AllCanFollow before items → AllCanFollow (before ++ items) more → AllCanFollow before (items ++ more)
joined-follow before [] more own others = subst (λ (l : List Item). AllCanFollow l more) (append-nil before) others
joined-follow before (item ∷ items) more own others =
    (own.0, joined-follow (before ++ item ∷ []) items more own.1 (subst (λ (l : List Item). AllCanFollow l more) (sym (append_assoc before (item ∷ []) items)) others))

-- the items of the file and those after it
pub closed-follow : (lacks : Lacks) (items : List Item) (closing : List SpokenMessage) → AllCanFollow [] items → AllByRecursion FitsMessage closing
    → AllByRecursion IsWhole closing → AllCanFollow [] (items ++ added_items lacks closing)
closed-follow lacks items closing own fit whole =
    joined-follow [] items (added_items lacks closing) own (added-follow lacks items closing fit whole)

pub possible : (v : FileValue) (lacks : Lacks) (opening closing : List SpokenMessage) → CanBeFile v → FitsSpeech opening 35 → FitsSpeech closing 265
    → data_size (added_items lacks opening) ≤ 35 → data_size (added_items lacks closing) ≤ 265 → data_size v.items + 35 + 265 < 2 ^ 32
    → CanBeFile (with_items (added_items lacks opening) v (added_items lacks closing))
possible v lacks opening closing is first_fits last_fits few more room =
    let first = added_items lacks opening in
    let last = added_items lacks closing in
    record {
      is_frame = is.is_frame;
      frame_fits = is.frame_fits;
      items_follow = joined-follow [] first (v.items ++ last) (added-follow lacks [] opening first_fits.fit first_fits.whole)
          (subst (λ (l : List Item). AllCanFollow l (v.items ++ last)) (append-nil first)
          (more-follow first [] (v.items ++ last) (closed-follow lacks v.items closing is.items_follow last_fits.fit last_fits.whole)));
      bound = omega (arith, few, more, room, sum_by-append item_size first (v.items ++ last), sum_by-append item_size v.items last);
    }
