-- What a listener has heard, with one byte more and at the end: for `recording/listener`.
use Rattle.std.proofs.Common.{◌≡◌, ◌≢◌, ◌⊎◌, ◌<◌, ◌≤◌, ◌+◌, ℕ, Bool, true, false, List, [], ◌∷◌, ◌++◌, Option, Result, Ok, Err, OnOk, OnErr, length, get_or, take, drop, refl, ◌∙◌, ap, append-nil, append_assoc, length-append, subst, arith, sym, inl, inr}
use Rattle.std.specs.Prelude.{IfOk, IfErr}
use Rattle.std.proofs.KnownBytes.{Appends-nil}
use Rattle.std.specs.Io.KnownBytes.{Appends}
use Rattle.std.proofs.lemmas.List.{take_more, take-append-drop}
use Rattle.fit_disk.specs.Story.{Story}
use Rattle.fit_files.specs.declared.fault.ReportFault.{ReportFault}
use Rattle.fit_files.specs.declared.fault.ReportFault.TheVariants.{File, Activity, Output, Input, Plain}
use Rattle.fit_files.specs.declared.reading.ReadFault.{ReadFault}
use Rattle.fit_runs.specs.declared.recording.held.Held.{Held}
use Rattle.fit_runs.specs.declared.recording.listener.Listener.{Listener}
use Rattle.fit_runs.specs.declared.recording.session.Session.{Session}
use Rattle.fit_files.specs.Printed.Shown.{IsOutputFault}
use Rattle.fit_runs.specs.Rides.Listening.{CanHear, HasHeard, BreaksOffAt}
use Rattle.fit_runs.specs.Rides.Turns.{Turn, turns_text, refused_in, rides_after, times_after, IsAnswer, AnswersLine, AnswersLines, AnswersAll, AnswersUpTo, AnswersSome, CommitsIfDue, TakesLine, PrintsPart, Prints, RepliesToAll, BrokenOff, Finishes, SoFar, LeavesByTurns}
use Rattle.fit_runs.specs.Rides.Heard.{IsHeld, line_of, lines_in, last_line, lines_heard_in}
use Rattle.fit_runs.proofs.Reported.Recorded.{answers_more, cut_after, newline_heard, other_heard, prints_then}

-- ---- the lines of some bytes

lines_are : (bytes : List ℕ) (ended : List (List ℕ)) (line : List ℕ) → lines_heard_in bytes ≡ record { ended = ended; held = line } →
    lines_in bytes ≡ ended ++ last_line line
lines_are bytes ended line is = ap (λ h. h.ended ++ last_line h.held) is

no_last : (bytes : List ℕ) (ended : List (List ℕ)) (line : List ℕ) → lines_heard_in bytes ≡ record { ended = ended; held = line } → line ≡ [] →
    ended ≡ lines_in bytes
no_last bytes ended line is none = sym (lines_are bytes ended line is ∙ ap (λ l. ended ++ last_line l) none ∙ append-nil ended)

last_is : (line : List ℕ) → line ≢ [] → last_line line ≡ line ∷ []
last_is [] some = absurd (some refl)
last_is (byte ∷ bytes) some = refl

one_last : (bytes : List ℕ) (ended : List (List ℕ)) (line : List ℕ) → lines_heard_in bytes ≡ record { ended = ended; held = line } → line ≢ [] →
    ended ++ line ∷ [] ≡ lines_in bytes
one_last bytes ended line is some = sym (lines_are bytes ended line is ∙ ap (λ l. ended ++ l) (last_is line some))

-- ---- what was done

abbrev all_with : (every : Option ℕ) (all lines : List (List ℕ)) (own end : List Turn) (at : ℕ) → lines ≡ all → AnswersLines every [] 1 lines own →
    at ≡ length lines + 1 → CommitsIfDue (rides_after false own) at end → AnswersAll every all (own ++ end)
all_with every all lines own end at is answers counted ends = record {
  own = own;
  end = end;
  split = refl;
  answers = subst (λ lines. AnswersLines every [] 1 lines own) is answers;
  ends = subst (λ n. CommitsIfDue (rides_after false own) n end) (counted ∙ ap (λ lines. length lines + 1) is) ends;
}

-- after the last line of all bytes
pub finishes : (honest : Bool) (old new : Story) (every : Option ℕ) (bytes : List ℕ) (lines : List (List ℕ)) (own end : List Turn) (number : ℕ)
    (before middle after : Option (List ℕ)) (result : Result ℕ ReportFault) → lines ≡ lines_in bytes → AnswersLines every [] 1 lines own →
    number ≡ length lines → RepliesToAll honest old new (own ++ end) → CommitsIfDue (rides_after false own) (number + 1) end →
    IfOk result (λ refused. refused ≡ refused_in (own ++ end)) → IfErr result IsOutputFault → Appends before middle (turns_text own) →
    Prints middle after result end → Finishes honest old new every bytes (own ++ end) before after result
finishes honest old new every bytes lines own end number before middle after (Ok refused) is answers counted does ends count fault printed prints = (
  all_with every (lines_in bytes) lines own end (number + 1) is answers (omega (arith, counted)) ends,
  does,
  count,
  prints_then before middle after own end (Ok refused) printed prints,
)
finishes honest old new every bytes lines own end number before middle after (Err Output) is answers counted does ends count fault printed prints = (
  bytes,
  [],
  sym (append-nil bytes),
  inr (inr (all_with every (lines_in bytes) lines own end (number + 1) is answers (omega (arith, counted)) ends)),
  does,
  cut_after before middle after own end printed prints,
)
finishes honest old new every bytes lines own end number before middle after (Err (File why)) is answers counted does ends count fault printed prints = absurd fault
finishes honest old new every bytes lines own end number before middle after (Err (Activity why)) is answers counted does ends count fault printed prints = absurd fault
finishes honest old new every bytes lines own end number before middle after (Err (Input why)) is answers counted does ends count fault printed prints = absurd fault
finishes honest old new every bytes lines own end number before middle after (Err (Plain why)) is answers counted does ends count fault printed prints = absurd fault

-- the output failed
pub broken_finishes : (honest : Bool) (old new : Story) (every : Option ℕ) (bytes : List ℕ) (turns : List Turn) (before after : Option (List ℕ)) (fault : ReportFault) →
    IsOutputFault fault → BrokenOff honest old new every bytes turns before after → Finishes honest old new every bytes turns before after (Err fault)
broken_finishes honest old new every bytes turns before after Output output broken = broken
broken_finishes honest old new every bytes turns before after (File why) output broken = absurd output
broken_finishes honest old new every bytes turns before after (Activity why) output broken = absurd output
broken_finishes honest old new every bytes turns before after (Input why) output broken = absurd output
broken_finishes honest old new every bytes turns before after (Plain why) output broken = absurd output

-- the output failed at these lines
abbrev ReachesIn : Option ℕ → List (List ℕ) → List Turn → Type 0
ReachesIn every lines turns = AnswersUpTo every lines turns ⊎ AnswersLines every [] 1 lines turns

-- at one line more
up_to_more : (every : Option ℕ) (lines : List (List ℕ)) (turns : List Turn) (line : List ℕ) (own : List Turn) (at : ℕ) (fault : ReportFault) →
    AnswersLines every [] 1 lines turns → at ≡ length lines + 1 →
    TakesLine {X = Unit {0}} (Err fault) every (times_after [] turns) at line own → ReachesIn every (lines ++ line ∷ []) (turns ++ own)
up_to_more every lines turns line own at fault all is (inl none) =
    inr (answers_more every [] 1 lines turns line own at all (omega (arith, is)) (inl none))
up_to_more every lines turns line own at fault all is (inr (answer, more, known, inl commits, split)) =
    inr (answers_more every [] 1 lines turns line own at all (omega (arith, is)) (inr (answer, more, known, commits, split)))
up_to_more every lines turns line own at fault all is (inr (answer, more, known, inr none, split)) = inl (record {
  first = lines;
  last = line;
  lines_are = refl;
  own = turns;
  answer = answer;
  split = ap (λ t. turns ++ t) (split ∙ ap (λ m. answer ∷ m) none);
  answers = all;
  is_answer = subst (λ n. IsAnswer n line answer) is known;
})

to_some : (every : Option ℕ) (all lines : List (List ℕ)) (turns : List Turn) → lines ≡ all → ReachesIn every lines turns → AnswersSome every all turns
to_some every all lines turns is (inl up_to) = inl (subst (λ l. AnswersUpTo every l turns) is up_to)
to_some every all lines turns is (inr answers) = inr (inl (subst (λ l. AnswersLines every [] 1 l turns) is answers))

-- one byte more of a piece
pub taken_more : (bytes piece : List ℕ) (i : ℕ) → i < length piece →
    (bytes ++ take i piece) ++ get_or piece i 0 ∷ [] ≡ bytes ++ take (i + 1) piece
taken_more bytes piece i within =
    append_assoc bytes (take i piece) (get_or piece i 0 ∷ []) ∙ ap (λ t. bytes ++ t) (sym (take_more piece i 0 within))

pub taken_all : (bytes piece : List ℕ) (i : ℕ) → i < length piece →
    bytes ++ piece ≡ ((bytes ++ take i piece) ++ get_or piece i 0 ∷ []) ++ drop (i + 1) piece
taken_all bytes piece i within =
    sym (ap (λ t. t ++ drop (i + 1) piece) (taken_more bytes piece i within) ∙ append_assoc bytes (take (i + 1) piece) (drop (i + 1) piece)
    ∙ ap (λ t. bytes ++ t) (take-append-drop (i + 1) piece))

module _ {D : Type 0} (honest : Bool) (story : D → Story) where
  pub can_more : (count more : ℕ) (listener : Listener D) → CanHear honest story count listener → count ≤ more → CanHear honest story more listener
  can_more count more listener can le = record { goes_on = can.goes_on; lines = omega (arith, le, can.lines); few = can.few }

module _ {D : Type 0} (honest : Bool) (story : D → Story) (every : Option ℕ) where
  -- before the first byte
  pub nothing_heard : (old : Story) (session : Session D) (held : Held) (out : Option (List ℕ)) → session.line ≡ 0 → SoFar honest story every old [] session →
      IsHeld [] held → HasHeard honest story every old [] [] out (record { session = session; held = held }) out
  nothing_heard old session held out none known kept = record {
    ended = [];
    whole = [];
    line = [];
    split = refl;
    to_newline = refl;
    all = refl;
    held = kept;
    number = none;
    answers = refl;
    so_far = known;
    printed = Appends-nil out;
  }

  -- a byte other than a newline
  pub heard_other : (old : Story) (bytes : List ℕ) (turns : List Turn) (byte : ℕ) (before after : Option (List ℕ)) (listener : Listener D) (held : Held) →
      (known : HasHeard honest story every old bytes turns before listener after) → byte ≢ 10 → IsHeld (known.line ++ byte ∷ []) held →
      HasHeard honest story every old (bytes ++ byte ∷ []) turns before (record { session = listener.session; held = held }) after
  heard_other old bytes turns byte before after listener held known other kept = record {
    ended = known.ended;
    whole = known.whole;
    line = known.line ++ byte ∷ [];
    split = ap (λ t. t ++ byte ∷ []) known.split ∙ append_assoc known.whole known.line (byte ∷ []);
    to_newline = known.to_newline;
    all = other_heard bytes byte known.ended known.line known.all other;
    held = kept;
    number = known.number;
    answers = known.answers;
    so_far = known.so_far;
    printed = known.printed;
  }

  -- a newline, and the turns of the line that it ends
  pub heard_newline : (old : Story) (bytes : List ℕ) (turns : List Turn) (byte : ℕ) (before middle after : Option (List ℕ)) (listener : Listener D) (next : Session D)
      (held : Held) (own : List Turn) (result : Result (Unit {0}) ReportFault) → (known : HasHeard honest story every old bytes turns before listener middle) → byte ≡ 10 →
      TakesLine result every (times_after [] turns) (listener.session.line + 1) (line_of true known.line) own → SoFar honest story every old (turns ++ own) next →
      Prints middle after result own → next.line ≡ listener.session.line + 1 → IsHeld [] held →
      OnOk result (HasHeard honest story every old (bytes ++ byte ∷ []) (turns ++ own) before (record { session = next; held = held }) after)
      × OnErr result (BreaksOffAt honest story every old (bytes ++ byte ∷ []) (turns ++ own) before (record { session = next; held = held }) after)
  heard_newline old bytes turns byte before middle after listener next held own (Ok done) known newline answers so_far prints number kept =
      let lines = known.ended ++ line_of true known.line ∷ [] in
      let heard = newline_heard bytes byte known.ended known.line known.all newline in (
        record {
          ended = lines;
          whole = bytes ++ byte ∷ [];
          line = [];
          split = sym (append-nil (bytes ++ byte ∷ []));
          to_newline = heard;
          all = heard;
          held = kept;
          number = omega (arith, number, known.number, length-append known.ended (line_of true known.line ∷ []));
          answers = answers_more every [] 1 known.ended turns (line_of true known.line) own (listener.session.line + 1) known.answers
              (omega (arith, known.number)) answers;
          so_far = so_far;
          printed = prints_then before middle after turns own (Ok done) known.printed prints;
        },
        tt,
      )
  heard_newline old bytes turns byte before middle after listener next held own (Err fault) known newline answers so_far prints number kept =
      let lines = known.ended ++ line_of true known.line ∷ [] in (
        tt,
        record {
          ended = lines;
          heard = bytes ++ byte ∷ [];
          rest = [];
          split = sym (append-nil (bytes ++ byte ∷ []));
          to_newline = newline_heard bytes byte known.ended known.line known.all newline;
          answers = up_to_more every known.ended turns (line_of true known.line) own (listener.session.line + 1) fault known.answers
              (omega (arith, known.number)) answers;
          so_far = so_far;
          cut = cut_after before middle after turns own known.printed prints;
        },
      )

  -- more bytes come after those that were done
  pub breaks_more : (old : Story) (bytes more all : List ℕ) (turns : List Turn) (before after : Option (List ℕ)) (listener : Listener D) →
      BreaksOffAt honest story every old bytes turns before listener after → all ≡ bytes ++ more →
      BreaksOffAt honest story every old all turns before listener after
  breaks_more old bytes more all turns before after listener known is = record {
    ended = known.ended;
    heard = known.heard;
    rest = known.rest ++ more;
    split = is ∙ ap (λ t. t ++ more) known.split ∙ append_assoc known.heard known.rest more;
    to_newline = known.to_newline;
    answers = known.answers;
    so_far = known.so_far;
    cut = known.cut;
  }

  pub broken_off : (old new : Story) (bytes : List ℕ) (turns : List Turn) (before after : Option (List ℕ)) (listener : Listener D) →
      (known : BreaksOffAt honest story every old bytes turns before listener after) →
      LeavesByTurns honest old new turns → BrokenOff honest old new every bytes turns before after
  broken_off old new bytes turns before after listener known leaves = (
    known.heard,
    known.rest,
    known.split,
    to_some every (lines_in known.heard) known.ended turns (no_last known.heard known.ended [] known.to_newline refl) known.answers,
    record { may = known.so_far.may; leaves = leaves },
    known.cut,
  )

  -- all bytes were heard, and the last is a newline
  pub finished_whole : (old new : Story) (bytes : List ℕ) (turns : List Turn) (before middle after : Option (List ℕ)) (listener : Listener D)
      (end : List Turn) (result : Result ℕ ReportFault) → (known : HasHeard honest story every old bytes turns before listener middle) →
      known.line ≡ [] → RepliesToAll honest old new (turns ++ end) → CommitsIfDue (rides_after false turns) (listener.session.line + 1) end →
      IfOk result (λ refused. refused ≡ refused_in (turns ++ end)) → IfErr result IsOutputFault → Prints middle after result end →
      Finishes honest old new every bytes (turns ++ end) before after result
  finished_whole old new bytes turns before middle after listener end result known none does ends count fault prints =
      finishes honest old new every bytes known.ended turns end listener.session.line before middle after result
      (no_last bytes known.ended known.line known.all none) known.answers known.number does ends count fault known.printed prints

  -- the last line has no newline, and was done too
  pub finished_last : (old new : Story) (bytes : List ℕ) (turns : List Turn) (before middle last after : Option (List ℕ)) (listener : Listener D) (next : Session D)
      (own end : List Turn) (result : Result ℕ ReportFault) → (known : HasHeard honest story every old bytes turns before listener middle) → known.line ≢ [] →
      AnswersLine every (times_after [] turns) (listener.session.line + 1) known.line own → next.line ≡ listener.session.line + 1 →
      Appends middle last (turns_text own) → RepliesToAll honest old new ((turns ++ own) ++ end) →
      CommitsIfDue (rides_after false (turns ++ own)) (next.line + 1) end →
      IfOk result (λ refused. refused ≡ refused_in ((turns ++ own) ++ end)) → IfErr result IsOutputFault → Prints last after result end →
      Finishes honest old new every bytes (turns ++ (own ++ end)) before after result
  finished_last old new bytes turns before middle last after listener next own end result known some answers number printed does ends count fault prints =
      subst (λ all. Finishes honest old new every bytes all before after result) (append_assoc turns own end) (
      finishes honest old new every bytes (known.ended ++ known.line ∷ []) (turns ++ own) end next.line before last after result
      (one_last bytes known.ended known.line known.all some)
      (answers_more every [] 1 known.ended turns known.line own (listener.session.line + 1) known.answers (omega (arith, known.number)) answers)
      (omega (arith, number, known.number, length-append known.ended (known.line ∷ []))) does ends count fault
      (prints_then {X = Unit {0}} before middle last turns own (Ok (tt {0})) known.printed printed) prints)

  -- the output failed at the last line, which has no newline
  pub failed_last : (old new : Story) (bytes : List ℕ) (turns : List Turn) (before middle after : Option (List ℕ)) (listener : Listener D) (next : Session D)
      (own : List Turn) (fault : ReportFault) → (known : HasHeard honest story every old bytes turns before listener middle) → known.line ≢ [] →
      TakesLine {X = Unit {0}} (Err fault) every (times_after [] turns) (listener.session.line + 1) known.line own →
      SoFar honest story every old (turns ++ own) next →
      LeavesByTurns honest old new (turns ++ own) → IsOutputFault fault → PrintsPart middle after own →
      Finishes honest old new every bytes (turns ++ own) before after (Err fault)
  failed_last old new bytes turns before middle after listener next own fault known some answers so_far leaves output cut =
      broken_finishes honest old new every bytes (turns ++ own) before after fault output (
        bytes,
        [],
        sym (append-nil bytes),
        to_some every (lines_in bytes) (known.ended ++ known.line ∷ []) (turns ++ own) (one_last bytes known.ended known.line known.all some)
            (up_to_more every known.ended turns known.line own (listener.session.line + 1) fault known.answers (omega (arith, known.number)) answers),
        record { may = so_far.may; leaves = leaves },
        cut_after before middle after turns own known.printed cut,
      )

  -- the lines that ended, and a commit if a recorder ran
  ended_all : (old : Story) (bytes : List ℕ) (turns : List Turn) (before middle : Option (List ℕ)) (listener : Listener D) (all : List (List ℕ)) (end : List Turn) →
      (known : HasHeard honest story every old bytes turns before listener middle) → known.ended ≡ all →
      CommitsIfDue (rides_after false turns) (listener.session.line + 1) end → AnswersAll every all (turns ++ end)
  ended_all old bytes turns before middle listener all end known is ends =
      all_with every all known.ended turns end (listener.session.line + 1) is known.answers (omega (arith, known.number)) ends

  -- reads failed, and a commit was made if a recorder ran
  pub reads_failed : (old new : Story) (bytes : List ℕ) (turns : List Turn) (before middle after : Option (List ℕ)) (listener : Listener D) (end : List Turn) (why : ReadFault) →
      (known : HasHeard honest story every old bytes turns before listener middle) → RepliesToAll honest old new (turns ++ end) →
      CommitsIfDue (rides_after false turns) (listener.session.line + 1) end → Appends middle after (turns_text end) →
      Finishes honest old new every bytes (turns ++ end) before after (Err (Input why))
  reads_failed old new bytes turns before middle after listener end why known does ends printed = (
    ended_all old bytes turns before middle listener (lines_heard_in bytes).ended end known (sym (ap (λ h. h.ended) known.all)) ends,
    does,
    prints_then {X = Unit {0}} before middle after turns end (Ok (tt {0})) known.printed printed,
  )

  -- the output failed at that commit
  pub commit_failed : (old new : Story) (bytes : List ℕ) (turns : List Turn) (before middle after : Option (List ℕ)) (listener : Listener D) (end : List Turn) (fault : ReportFault) →
      (known : HasHeard honest story every old bytes turns before listener middle) → RepliesToAll honest old new (turns ++ end) →
      CommitsIfDue (rides_after false turns) (listener.session.line + 1) end → IsOutputFault fault → PrintsPart middle after end →
      Finishes honest old new every bytes (turns ++ end) before after (Err fault)
  commit_failed old new bytes turns before middle after listener end fault known does ends output cut =
      broken_finishes honest old new every bytes (turns ++ end) before after fault output (
        known.whole,
        known.line,
        known.split,
        inr (inr (ended_all old bytes turns before middle listener (lines_in known.whole) end known
            (no_last known.whole known.ended [] known.to_newline refl) ends)),
        does,
        cut_after before middle after turns end known.printed cut,
      )
