-- Turns with one turn more, the lines with one byte more, and what is left at the end: for `recording`.
use Rattle.std.proofs.Common.{◌≡◌, ◌≢◌, ◌+◌, ◌==◌, ℕ, Bool, true, false, List, [], ◌∷◌, ◌++◌, Option, Some, None, Result, Ok, Err, length, refl, ◌∙◌, ap, append-nil, append_assoc, subst, arith, sym, inl, inr, rules}
use Rattle.std.specs.Prelude.{IsTrue, IfSome, IsSome}
use Rattle.std.specs.Borrow.{Bor}
use Rattle.fit_histories.specs.declared.command.Command.{Command}
use Rattle.fit_scripts.specs.Scripts.Script.{meaning_of}
use Rattle.std.proofs.KnownBytes.{Appends-trans, Appends-nil}
use Rattle.std.proofs.lemmas.Grind.{flat_map-append}
use Rattle.std.specs.Io.KnownBytes.{Appends}
use Rattle.fit_activity.specs.Rides.Recording.{Recorded}
use Rattle.fit_activity.specs.Rides.Stretch.{end_time}
use Rattle.fit_disk.specs.Story.{Story}
use Rattle.fit_grammar.specs.Calls.Output.{WritesText}
use Rattle.fit_histories.specs.declared.event.Event.{Event}
use Rattle.fit_files.specs.declared.fault.ReportFault.{ReportFault}
use Rattle.fit_runs.specs.declared.recording.line_fault.LineFault.{LineFault}
use Rattle.fit_runs.specs.declared.recording.session.Session.{Session}
use Rattle.fit_histories.specs.declared.reply.Reply.{Reply}
use Rattle.fit_histories.specs.Histories.Table.{History, Idle, ended, Riding}
use Rattle.fit_runs.specs.Rides.Dues.{Shows, times_on}
use Rattle.fit_histories.specs.Rides.Replies.{MayReply, MayReplyAll, is_ok, rides_on}
use Rattle.fit_histories.specs.Rides.Begun.{LeavesForm, RideBeginsForm, begun_after, begun_on}
use Rattle.fit_histories.specs.Rides.Moments.{LeavesAtMoments}
use Rattle.fit_histories.specs.Rides.Ride.{disk_in, is_riding, Handed}
use Rattle.fit_histories.specs.Rides.Standing.{StandsIn, TakesStepFrom, LeavesAllowed, content_of}
use Rattle.fit_runs.specs.Rides.Turns.{commit_at, Turn, Asked, Faulty, turn_text, turns_text, events_in, replies_in, refused_count, refused_in, rides_after, times_after, AnswersLine, AnswersLines, CommitsIfDue, CommitsUnlessBroken, PrintsPart, Prints, SoFar, EndsAt, GoesByTurns, LeavesByTurns}
use Rattle.fit_runs.specs.Rides.Heard.{Heard, after_byte, after_bytes, lines_heard_in, line_of}
use Rattle.fit_runs.specs.Rides.Played.{Passes}
use Rattle.fit_histories.specs.declared.ride.Ride.{Ride}
use Rattle.fit_runs.proofs.Reported.Played.{form_on}
use Rattle.fit_histories.specs.declared.ride.Ride.TheVariants as rides

-- ---- one turn more

may_more : (riding : Bool) (turns : List Turn) (event : Event) (reply : Reply) (last : ℕ) → MayReplyAll riding (events_in turns) (replies_in turns) →
    MayReply (rides_after riding turns) event.command reply →
    MayReplyAll riding (events_in (turns ++ Asked event reply last ∷ [])) (replies_in (turns ++ Asked event reply last ∷ []))
may_more riding [] event reply last all may = (may, tt)
may_more riding (Asked first stated other ∷ turns) event reply last all may =
    (all.0, may_more (rides_on riding first.command stated) turns event reply last all.1 may)
may_more riding (Faulty number fault ∷ turns) event reply last all may = may_more riding turns event reply last all may

goes_more : (before middle after : History) (old mid new : Story) (turns : List Turn) (event : Event) (reply : Reply) (last : ℕ) →
    GoesByTurns before old turns middle mid → Passes middle mid event.command reply after new → EndsAt after last →
    GoesByTurns before old (turns ++ Asked event reply last ∷ []) after new
goes_more before middle after old mid new [] event reply last goes step ends =
    (after, new, subst (λ story. Passes before story event.command reply after new) goes.1 (subst (λ h. Passes h mid event.command reply after new) goes.0 step), ends, (refl, refl))
goes_more before middle after old mid new (Asked first stated other ∷ turns) event reply last goes step ends =
    (goes.0, goes.1, goes.2, goes.3, goes_more goes.0 middle after goes.1 mid new turns event reply last goes.4 step ends)
goes_more before middle after old mid new (Faulty number fault ∷ turns) event reply last goes step ends =
    goes_more before middle after old mid new turns event reply last goes step ends

rides_more : (riding : Bool) (turns : List Turn) (event : Event) (reply : Reply) (last : ℕ) →
    rides_after riding (turns ++ Asked event reply last ∷ []) ≡ rides_on (rides_after riding turns) event.command reply
rides_more riding [] event reply last = refl
rides_more riding (Asked first stated other ∷ turns) event reply last = rides_more (rides_on riding first.command stated) turns event reply last
rides_more riding (Faulty number fault ∷ turns) event reply last = rides_more riding turns event reply last

pub refused_more : (turns more : List Turn) → refused_in (turns ++ more) ≡ refused_in turns + refused_in more
refused_more [] more = omega arith
refused_more (turn ∷ turns) more = omega (arith, refused_more turns more)

events_same : (turns : List Turn) (number : ℕ) (fault : LineFault) → events_in (turns ++ Faulty number fault ∷ []) ≡ events_in turns
events_same [] number fault = refl
events_same (Asked event reply last ∷ turns) number fault = ap (λ events. event ∷ events) (events_same turns number fault)
events_same (Faulty n f ∷ turns) number fault = events_same turns number fault

replies_same : (turns : List Turn) (number : ℕ) (fault : LineFault) → replies_in (turns ++ Faulty number fault ∷ []) ≡ replies_in turns
replies_same [] number fault = refl
replies_same (Asked event reply last ∷ turns) number fault = ap (λ replies. reply ∷ replies) (replies_same turns number fault)
replies_same (Faulty n f ∷ turns) number fault = replies_same turns number fault

rides_same : (riding : Bool) (turns : List Turn) (number : ℕ) (fault : LineFault) →
    rides_after riding (turns ++ Faulty number fault ∷ []) ≡ rides_after riding turns
rides_same riding [] number fault = refl
rides_same riding (Asked event reply last ∷ turns) number fault = rides_same (rides_on riding event.command reply) turns number fault
rides_same riding (Faulty n f ∷ turns) number fault = rides_same riding turns number fault

pub times_more : (times : List ℕ) (turns more : List Turn) → times_after times (turns ++ more) ≡ times_after (times_after times turns) more
times_more times [] more = refl
times_more times (Asked event reply last ∷ turns) more = times_more (times_on times event.command (is_ok reply) last) turns more
times_more times (Faulty number fault ∷ turns) more = times_more times turns more

goes_same : (before after : History) (old new : Story) (turns : List Turn) (number : ℕ) (fault : LineFault) → GoesByTurns before old turns after new →
    GoesByTurns before old (turns ++ Faulty number fault ∷ []) after new
goes_same before after old new [] number fault goes = goes
goes_same before after old new (Asked event reply last ∷ turns) number fault goes =
    (goes.0, goes.1, goes.2, goes.3, goes_same goes.0 after goes.1 new turns number fault goes.4)
goes_same before after old new (Faulty n f ∷ turns) number fault goes = goes_same before after old new turns number fault goes

begun_more : (begun : Bool) (turns : List Turn) (event : Event) (reply : Reply) (last : ℕ) →
    begun_after begun (events_in (turns ++ Asked event reply last ∷ [])) (replies_in (turns ++ Asked event reply last ∷ []))
    ≡ begun_on (begun_after begun (events_in turns) (replies_in turns)) event.command reply
begun_more begun [] event reply last = refl
begun_more begun (Asked first stated other ∷ turns) event reply last = begun_more (begun_on begun first.command stated) turns event reply last
begun_more begun (Faulty number fault ∷ turns) event reply last = begun_more begun turns event reply last

-- the last time of a recorder is that of the list in each state in which it stands
pub ends_at : {D : Type 0} (honest : Bool) (story : D → Story) (ride : Ride D) (after : History) (last : ℕ) →
    ((list : List Recorded) → Handed ride list → last ≡ end_time list) → StandsIn honest story ride after → EndsAt after last
ends_at honest story (rides.Riding recorder) (Riding list promise reopened false) last is stands = is list (stands.stands.totals, stands.going)
ends_at honest story (rides.Riding recorder) (Riding list promise reopened true) last is stands = tt
ends_at honest story (rides.Riding recorder) (Idle claims begun) last is stands = tt
ends_at honest story (rides.Idle disk) (Riding list promise reopened failed) last is stands = absurd stands
ends_at honest story (rides.Idle disk) (Idle claims begun) last is stands = tt

module _ {D : Type 0} (honest : Bool) (story : D → Story) (every : Option ℕ) where
  -- an event was run
  pub so_far_asked : (old : Story) (turns : List Turn) (session next : Session D) (event : Event) (reply : Reply) (last : ℕ) →
      SoFar honest story every old turns session → MayReply (is_riding session.ride) event.command reply →
      is_riding next.ride ≡ rides_on (is_riding session.ride) event.command reply → next.refused ≡ session.refused + refused_count (Asked event reply last) →
      Shows every (times_on (times_after [] turns) event.command (is_ok reply) last) next.clock →
      (IsTrue honest → (before : History) → StandsIn honest story session.ride before → TakesStepFrom honest story before event.command reply next.ride) →
      LeavesAtMoments honest story event.command session.ride next.ride → ((after : History) → StandsIn honest story next.ride after → EndsAt after last) →
      RideBeginsForm honest story true event.command reply session.ride next.ride →
      SoFar honest story every old (turns ++ Asked event reply last ∷ []) next
  so_far_asked old turns session next event reply last known may rides counts shows step moments ends form = record {
    may = may_more false turns event reply last known.may (subst (λ riding. MayReply riding event.command reply) known.riding may);
    riding = rides ∙ ap (λ riding. rides_on riding event.command reply) known.riding ∙ sym (rides_more false turns event reply last);
    counted = omega (arith, counts, known.counted, refused_more turns (Asked event reply last ∷ []));
    clock = subst (λ times. Shows every times next.clock) (sym (times_more [] turns (Asked event reply last ∷ []))) shows;
    stood = λ sound claims begun rests.
        let stood = known.stood sound claims begun rests in
        let by = step sound stood.0 stood.2 in (
          by.after,
          goes_more (Idle claims begun) stood.0 by.after old (story (disk_in session.ride)) (story (disk_in next.ride)) turns event reply last stood.1
              (record { file = content_of story next.ride; step = by.step; any_moment = moments sound stood.0 stood.2 }) (ends by.after by.stands),
          by.stands,
          λ begun_now. form_on true (begun_after false (events_in turns) (replies_in turns)) event.command reply (story (disk_in session.ride)) (story (disk_in next.ride)) stood.3
              (form sound stood.0 stood.2) (sym (begun_more false turns event reply last) ∙ begun_now),
        );
  }

  -- a line could not be done
  pub so_far_faulty : (old : Story) (turns : List Turn) (session next : Session D) (number : ℕ) (fault : LineFault) →
      SoFar honest story every old turns session → next.ride ≡ session.ride → next.clock ≡ session.clock → next.refused ≡ session.refused + 1 →
      SoFar honest story every old (turns ++ Faulty number fault ∷ []) next
  so_far_faulty old turns session next number fault known same clock counts = record {
    may = rw (events_same turns number fault, replies_same turns number fault) known.may;
    riding = ap is_riding same ∙ known.riding ∙ sym (rides_same false turns number fault);
    counted = omega (arith, counts, known.counted, refused_more turns (Faulty number fault ∷ []));
    clock = rw (times_more [] turns (Faulty number fault ∷ []), clock) known.clock;
    stood = λ sound claims begun rests.
        let stood = known.stood sound claims begun rests in (
          stood.0,
          subst (λ ride. GoesByTurns (Idle claims begun) old (turns ++ Faulty number fault ∷ []) stood.0 (story (disk_in ride))) (sym same)
              (goes_same (Idle claims begun) stood.0 old (story (disk_in session.ride)) turns number fault stood.1),
          subst (λ ride. StandsIn honest story ride stood.0) (sym same) stood.2,
          rw (events_same turns number fault, replies_same turns number fault, same) stood.3,
        );
  }

  -- the ride and the count are the same
  pub so_far_same : (old : Story) (turns others : List Turn) (session next : Session D) → SoFar honest story every old turns session → turns ≡ others →
      next.ride ≡ session.ride → next.clock ≡ session.clock → next.refused ≡ session.refused → SoFar honest story every old others next
  so_far_same old turns others session next known all same clock counts =
      subst (λ turns. SoFar honest story every old turns next) all (record {
        may = known.may;
        riding = ap is_riding same ∙ known.riding;
        counted = counts ∙ known.counted;
        clock = rw clock known.clock;
        stood = λ sound claims begun rests.
            let stood = known.stood sound claims begun rests in (
              stood.0,
              subst (λ ride. GoesByTurns (Idle claims begun) old turns stood.0 (story (disk_in ride))) (sym same) stood.1,
              subst (λ ride. StandsIn honest story ride stood.0) (sym same) stood.2,
              rw same stood.3,
            );
      })

  -- what is left if the ride is ended
  pub left_after : (old new : Story) (turns : List Turn) (session : Session D) → SoFar honest story every old turns session →
      (IsTrue honest → (before : History) → StandsIn honest story session.ride before → LeavesAllowed (ended before) new) →
      new ≡ story (disk_in session.ride) → LeavesByTurns honest old new turns
  left_after old new turns session known ends same sound claims begun rests =
      let stood = known.stood sound claims begun rests in
      record {
        after = stood.0;
        goes = subst (GoesByTurns (Idle claims begun) old turns stood.0) (sym same) stood.1;
        rests = ends sound stood.0 stood.2;
        form = λ begun_now. subst (LeavesForm true) (sym same) (stood.3 begun_now);
      }

pub no_commit : (due : Bool) (number : ℕ) → due ≡ false → CommitsIfDue due number []
no_commit true number none = cc
no_commit false number none = refl

pub one_commit : (due : Bool) (number : ℕ) (reply : Reply) (last : ℕ) → due ≡ true →
    CommitsIfDue due number (Asked (commit_at number) reply last ∷ [])
one_commit true number reply last one = (reply, last, refl)
one_commit false number reply last one = cc

pub none_unless : {X : Type 0} (result : Result X ReportFault) (due : Bool) (number : ℕ) → due ≡ false →
    CommitsUnlessBroken result due number []
none_unless (Ok x) due number none = no_commit due number none
none_unless (Err fault) due number none = inr refl

pub one_unless : {X : Type 0} (result : Result X ReportFault) (due : Bool) (number : ℕ) (reply : Reply) (last : ℕ) → due ≡ true →
    CommitsUnlessBroken result due number (Asked (commit_at number) reply last ∷ [])
one_unless (Ok x) due number reply last one = one_commit due number reply last one
one_unless (Err fault) due number reply last one = inl (one_commit due number reply last one)

-- ---- what is printed

pub prints_none : {X : Type 0} (held : Option (List ℕ)) (x : X) → Prints held held (Ok x) []
prints_none held x = Appends-nil held

pub prints_one : {X : Type 0} (old new : Option (List ℕ)) (result : Result X ReportFault) (turn : Turn) → WritesText old new result (turn_text turn) →
    Prints old new result (turn ∷ [])
prints_one old new (Ok x) turn writes = subst (λ text. Appends old new text) (sym (append-nil (turn_text turn))) writes.all
prints_one old new (Err fault) turn writes = record {
  before = [];
  last = turn;
  all = refl;
  part = writes.beginning.part;
  rest = writes.beginning.rest;
  cut = writes.beginning.split;
  printed = writes.beginning.appended;
}

texts : (turns more : List Turn) → turns_text (turns ++ more) ≡ turns_text turns ++ turns_text more
texts turns more = flat_map-append turn_text turns more

pub cut_after : (old middle new : Option (List ℕ)) (turns more : List Turn) → Appends old middle (turns_text turns) → PrintsPart middle new more →
    PrintsPart old new (turns ++ more)
cut_after old middle new turns more printed cut = record {
  before = turns ++ cut.before;
  last = cut.last;
  all = ap (λ t. turns ++ t) cut.all ∙ sym (append_assoc turns cut.before (cut.last ∷ []));
  part = cut.part;
  rest = cut.rest;
  cut = cut.cut;
  printed = subst (λ text. Appends old new text)
      (sym (append_assoc (turns_text turns) (turns_text cut.before) cut.part) ∙ ap (λ t. t ++ cut.part) (sym (texts turns cut.before)))
      (Appends-trans old middle new (turns_text turns) (turns_text cut.before ++ cut.part) printed cut.printed);
}

-- these turns were printed, and more of them after
pub prints_then : {X : Type 0} (old middle new : Option (List ℕ)) (turns more : List Turn) (result : Result X ReportFault) →
    Appends old middle (turns_text turns) → Prints middle new result more → Prints old new result (turns ++ more)
prints_then old middle new turns more (Ok x) printed last =
    subst (λ text. Appends old new text) (sym (texts turns more)) (Appends-trans old middle new (turns_text turns) (turns_text more) printed last)
prints_then old middle new turns more (Err fault) printed last = cut_after old middle new turns more printed last

-- ---- one byte more

after_more : (heard : Heard) (bytes : List ℕ) (byte : ℕ) → after_bytes heard (bytes ++ byte ∷ []) ≡ after_byte (after_bytes heard bytes) byte
after_more heard [] byte = refl
after_more heard (first ∷ bytes) byte = after_more (after_byte heard first) bytes byte

pub heard_more : (bytes : List ℕ) (byte : ℕ) (heard : Heard) → lines_heard_in bytes ≡ heard → lines_heard_in (bytes ++ byte ∷ []) ≡ after_byte heard byte
heard_more bytes byte heard is = after_more (record { ended = []; held = [] }) bytes byte ∙ ap (λ h. after_byte h byte) is

pub newline_heard : (bytes : List ℕ) (byte : ℕ) (lines : List (List ℕ)) (line : List ℕ) → lines_heard_in bytes ≡ record { ended = lines; held = line } → byte ≡ 10 →
    lines_heard_in (bytes ++ byte ∷ []) ≡ record { ended = lines ++ line_of true line ∷ []; held = [] }
newline_heard bytes byte lines line is newline = heard_more bytes byte _ is ∙ rw newline refl

pub other_heard : (bytes : List ℕ) (byte : ℕ) (lines : List (List ℕ)) (line : List ℕ) → lines_heard_in bytes ≡ record { ended = lines; held = line } → byte ≢ 10 →
    lines_heard_in (bytes ++ byte ∷ []) ≡ record { ended = lines; held = line ++ byte ∷ [] }
other_heard bytes byte lines line is other =
    let no : (byte == 10) ≡ false = search rules in heard_more bytes byte _ is ∙ rw no refl

-- ---- one line more

-- what the words of a line that is there state
pub line_means : (line : Option (Bor (List ℕ))) (bytes : List ℕ) (found : Option Command) → IsSome line →
    IfSome line (λ line. meaning_of line.now ≡ Some found) → IfSome line (λ line. line.now ≡ bytes) → meaning_of bytes ≡ Some found
line_means None bytes found there means same = cc
line_means (Some line) bytes found there means same = sym (ap meaning_of same) ∙ means

pub answers_more : (every : Option ℕ) (times : List ℕ) (number : ℕ) (lines : List (List ℕ)) (turns : List Turn) (line : List ℕ) (own : List Turn)
    (at : ℕ) → AnswersLines every times number lines turns → at ≡ number + length lines → AnswersLine every (times_after times turns) at line own →
    AnswersLines every times number (lines ++ line ∷ []) (turns ++ own)
answers_more every times number [] turns line own at none is answers =
    let here : at ≡ number = omega (arith, is) in (
      own,
      [],
      ap (λ t. t ++ own) none ∙ sym (append-nil own),
      rw (ap (times_after times) none, here) at answers,
      refl,
    )
answers_more every times number (first ∷ lines) turns line own at all is answers = (
  all.0,
  all.1 ++ own,
  ap (λ t. t ++ own) all.2 ∙ append_assoc all.0 all.1 own,
  all.3,
  answers_more every (times_after times all.0) (number + 1) lines all.1 line own at all.4 (omega (arith, is))
      (rw (ap (times_after times) all.2 ∙ times_more times all.0 all.1) at answers),
)
