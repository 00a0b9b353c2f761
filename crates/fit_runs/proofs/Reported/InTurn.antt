-- What passed at a dialogue, after one read more and at the end: for `record`.
use Rattle.std.proofs.Common.{◌≡◌, ◌⊎◌, ◌+◌, ◌^◌, ℕ, Bool, List, [], ◌∷◌, ◌++◌, Option, Some, None, Result, Ok, Err, OnOk, refl, sym, ap, ◌∙◌, append_assoc, append-nil, subst, arith, inl, inr}
use Rattle.std.specs.Prelude.{IfErr}
use Rattle.std.specs.Io.KnownBytes.{Appends, Consumes, IsAtEnd, Keeps}
use Rattle.std.proofs.KnownBytes.{Appends-nil, Appends-trans}
use Rattle.std.proofs.lemmas.List.{append_cancel_left}
use Rattle.fit_disk.specs.Story.{Story}
use Rattle.fit_files.specs.declared.fault.ReportFault.{ReportFault}
use Rattle.fit_files.specs.declared.fault.ReportFault.TheVariants.{File, Activity, Output, Input, Plain}
use Rattle.fit_files.specs.declared.reading.ReadFault.{ReadFault}
use Rattle.fit_files.specs.declared.reading.ReadFault.TheVariants.{TooLarge}
use Rattle.fit_files.specs.Printed.Shown.{IsOutputFault}
use Rattle.fit_files.proofs.Pieces.{consumes_none, consumes_more}
use Rattle.fit_runs.specs.Exchanges.{Exchange, Hear, HearFailed, Tell, TellFailed, AreTold, Sides, OnlyTells, heard_in, told, told_in, reads_in}
use Rattle.fit_runs.specs.Rides.InTurn.{IsAnswered, AnswersAtReads, LastReads, EndsByReads, RecordsInTurn}
use Rattle.fit_runs.specs.Rides.Listening.{HasHeard, HasRecorded, HasEnded}
use Rattle.fit_runs.specs.Rides.Turns.{Turn, AnswersLines, PrintsPart, BrokenOff, Finishes, RecordsBytes, turns_text}
use Rattle.fit_runs.specs.declared.recording.listener.Listener.{Listener}
use Rattle.fit_runs.proofs.Exchanged.{heard_then, told_then, reads_then, heard_none, reads_none, only_none}

-- ---- at each read

answered_later : (every : Option ℕ) (turns own : List Turn) (heard spoken : List ℕ) → IsAnswered every turns heard spoken →
    IsAnswered every (turns ++ own) heard spoken
answered_later every turns own heard spoken known = record {
  own = known.own;
  later = known.later ++ own;
  split = ap (λ t. t ++ own) known.split ∙ append_assoc known.own known.later own;
  answers = known.answers;
  text = known.text;
}

-- the turns may go on
answers_later : (every : Option ℕ) (turns own : List Turn) (heard spoken : List ℕ) (passed : List Exchange) → AnswersAtReads every turns heard spoken passed →
    AnswersAtReads every (turns ++ own) heard spoken passed
answers_later every turns own heard spoken [] known = tt
answers_later every turns own heard spoken (Hear bytes ∷ passed) known =
    (answered_later every turns own heard spoken known.0, answers_later every turns own (heard ++ bytes) spoken passed known.1)
answers_later every turns own heard spoken (HearFailed why ∷ passed) known =
    (answered_later every turns own heard spoken known.0, answers_later every turns own heard spoken passed known.1)
answers_later every turns own heard spoken (Tell bytes ∷ passed) known = answers_later every turns own heard (spoken ++ bytes) passed known
answers_later every turns own heard spoken (TellFailed bytes ∷ passed) known = answers_later every turns own heard (spoken ++ bytes) passed known

-- more passes
answers_then : (every : Option ℕ) (turns : List Turn) (heard spoken : List ℕ) (passed more : List Exchange) → AnswersAtReads every turns heard spoken passed →
    AnswersAtReads every turns (heard ++ heard_in passed) (spoken ++ told_in passed) more → AnswersAtReads every turns heard spoken (passed ++ more)
answers_then every turns heard spoken [] more known then =
    subst (λ h. AnswersAtReads every turns h spoken more) (append-nil heard)
    (subst (λ s. AnswersAtReads every turns (heard ++ []) s more) (append-nil spoken) then)
answers_then every turns heard spoken (Hear bytes ∷ passed) more known then = (
  known.0,
  answers_then every turns (heard ++ bytes) spoken passed more known.1
      (subst (λ h. AnswersAtReads every turns h (spoken ++ told_in passed) more) (sym (append_assoc heard bytes (heard_in passed))) then),
)
answers_then every turns heard spoken (HearFailed why ∷ passed) more known then = (known.0, answers_then every turns heard spoken passed more known.1 then)
answers_then every turns heard spoken (Tell bytes ∷ passed) more known then =
    answers_then every turns heard (spoken ++ bytes) passed more known
    (subst (λ s. AnswersAtReads every turns (heard ++ heard_in passed) s more) (sym (append_assoc spoken bytes (told_in passed))) then)
answers_then every turns heard spoken (TellFailed bytes ∷ passed) more known then =
    answers_then every turns heard (spoken ++ bytes) passed more known
    (subst (λ s. AnswersAtReads every turns (heard ++ heard_in passed) s more) (sym (append_assoc spoken bytes (told_in passed))) then)

-- nothing is read
answers_told : (every : Option ℕ) (turns : List Turn) (heard spoken : List ℕ) (said : List Exchange) → AreTold said → AnswersAtReads every turns heard spoken said
answers_told every turns heard spoken [] are = tt
answers_told every turns heard spoken (Hear bytes ∷ said) are = absurd are.0
answers_told every turns heard spoken (HearFailed why ∷ said) are = absurd are.0
answers_told every turns heard spoken (Tell bytes ∷ said) are = answers_told every turns heard (spoken ++ bytes) said are.1
answers_told every turns heard spoken (TellFailed bytes ∷ said) are = answers_told every turns heard (spoken ++ bytes) said are.1

-- ---- what is printed, of any writer

-- what was told since
told_since : (begun now passed : List Exchange) (text : List ℕ) → now ≡ begun ++ passed → Appends (told begun) (told now) text → text ≡ told_in passed
told_since begun now passed text grown appends =
    append_cancel_left (told_in begun) text (told_in passed) (sym appends ∙ ap told_in grown ∙ told_then begun passed)

module _ (begun now passed : List Exchange) (before after : Option (List ℕ)) (grown : now ≡ begun ++ passed) (written : Appends before after (told_in passed)) where
  appends_so : (text : List ℕ) → Appends (told begun) (told now) text → Appends before after text
  appends_so text appends = subst (λ t. Appends before after t) (sym (told_since begun now passed text grown appends)) written

  part_so : (turns : List Turn) → PrintsPart (told begun) (told now) turns → PrintsPart before after turns
  part_so turns cut = record {
    before = cut.before;
    last = cut.last;
    all = cut.all;
    part = cut.part;
    rest = cut.rest;
    cut = cut.cut;
    printed = appends_so (turns_text cut.before ++ cut.part) cut.printed;
  }

  broken_so : (honest : Bool) (old new : Story) (every : Option ℕ) (bytes : List ℕ) (turns : List Turn) →
      BrokenOff honest old new every bytes turns (told begun) (told now) → BrokenOff honest old new every bytes turns before after
  broken_so honest old new every bytes turns broken = (broken.0, broken.1, broken.2, broken.3, broken.4, part_so turns broken.5)

  finishes_so : (honest : Bool) (old new : Story) (every : Option ℕ) (bytes : List ℕ) (turns : List Turn) (result : Result ℕ ReportFault) →
      Finishes honest old new every bytes turns (told begun) (told now) result → Finishes honest old new every bytes turns before after result
  finishes_so honest old new every bytes turns (Ok refused) f = (f.0, f.1, f.2, appends_so (turns_text turns) f.3)
  finishes_so honest old new every bytes turns (Err (Input why)) f = (f.0, f.1, appends_so (turns_text turns) f.2)
  finishes_so honest old new every bytes turns (Err Output) f = broken_so honest old new every bytes turns f
  finishes_so honest old new every bytes turns (Err (File why)) f = broken_so honest old new every bytes turns f
  finishes_so honest old new every bytes turns (Err (Activity why)) f = broken_so honest old new every bytes turns f
  finishes_so honest old new every bytes turns (Err (Plain why)) f = broken_so honest old new every bytes turns f

module _ (honest : Bool) (old new : Story) (every : Option ℕ) (begun ended : List Exchange) (from to : Sides) (result : Result ℕ ReportFault) where
  pub records_bytes : HasEnded honest old new every begun ended from to result →
      RecordsBytes honest old new every from.left to.left from.held to.held result
  records_bytes known = (
    heard_in known.passed,
    known.consumed,
    known.all,
    known.turns,
    finishes_so begun ended known.passed from.held to.held known.grown known.written honest old new every (heard_in known.passed) known.turns result known.finishes,
  )

  pub records_in_turn : HasEnded honest old new every begun ended from to result → RecordsInTurn honest old new every begun ended result
  records_in_turn known = record {
    passed = known.passed;
    grown = known.grown;
    turns = known.turns;
    finishes = finishes_so begun ended known.passed (told []) (told known.passed) known.grown refl honest old new every (heard_in known.passed) known.turns result
        known.finishes;
    in_turn = known.in_turn;
    ends = known.ends;
  }

-- ---- a recording

-- the fault of an output is none of the input
ends_output : (result : Result ℕ ReportFault) (passed : List Exchange) → IfErr result IsOutputFault → OnOk result (LastReads (Hear []) passed) → EndsByReads result passed
ends_output (Ok refused) passed fault last = last
ends_output (Err Output) passed fault last = tt
ends_output (Err (File why)) passed fault last = absurd fault
ends_output (Err (Activity why)) passed fault last = absurd fault
ends_output (Err (Input why)) passed fault last = absurd fault
ends_output (Err (Plain why)) passed fault last = absurd fault

-- the fault is this one of the input, or another one
ends_input : (why : ReadFault) (result : Result ℕ ReportFault) (passed : List Exchange) → OnOk result ⊥ →
    ((other : ReadFault) → result ≡ Err (Input other) → other ≡ why) →
    (LastReads (HearFailed why) passed ⊎ ((why ≡ TooLarge) × (reads_in passed ≡ 2 ^ 40))) → EndsByReads result passed
ends_input why (Ok refused) passed broken same ends = absurd broken
ends_input why (Err (Input other)) passed broken same ends =
    subst (λ w. LastReads (HearFailed w) passed ⊎ ((w ≡ TooLarge) × (reads_in passed ≡ 2 ^ 40))) (sym (same other refl)) ends
ends_input why (Err Output) passed broken same ends = tt
ends_input why (Err (File fault)) passed broken same ends = tt
ends_input why (Err (Activity fault)) passed broken same ends = tt
ends_input why (Err (Plain fault)) passed broken same ends = tt

-- all is done only at the end
at_end : (result : Result ℕ ReportFault) (left : Option (List ℕ)) → IsAtEnd left → OnOk result (IsAtEnd left)
at_end (Ok refused) left end = end
at_end (Err fault) left end = tt

none_at_end : (result : Result ℕ ReportFault) (left : Option (List ℕ)) → OnOk result ⊥ → OnOk result (IsAtEnd left)
none_at_end (Ok refused) left broken = absurd broken
none_at_end (Err fault) left broken = tt

plus_zero : (n : ℕ) → n + 0 ≡ n
plus_zero n = omega arith

pub keeps_nothing : (old new : Option (List ℕ)) → Keeps old new → Consumes old new []
keeps_nothing None new kept = tt
keeps_nothing (Some bytes) None kept = absurd kept
keeps_nothing (Some bytes) (Some left) kept = sym kept

on_ok : {P : Type 0} (result : Result ℕ ReportFault) → P → OnOk result P
on_ok (Ok refused) p = p
on_ok (Err fault) p = tt

module _ {D : Type 0} (honest : Bool) (story : D → Story) (every : Option ℕ) (old : Story) (begun : List Exchange) (from : Sides) where
  abbrev Recorded : List Exchange → Sides → ℕ → Listener D → Type 0
  Recorded now to reads listener = HasRecorded honest story every old begun now from to reads listener

  pub begins : (listener : Listener D) → ((held : Option (List ℕ)) → HasHeard honest story every old [] [] held listener held) → Recorded begun from 0 listener
  begins listener known = record {
    passed = [];
    grown = sym (append-nil begun);
    turns = [];
    heard = known (told begun);
    in_turn = tt;
    consumed = consumes_none from.left;
    written = Appends-nil from.held;
    name = refl;
    counted = refl;
  }

  -- a read, and what is told after it
  module _ (read : Exchange) (bytes : List ℕ) (silent : (more : List Exchange) → told_in (read ∷ more) ≡ told_in more)
      (gives : (more : List Exchange) → heard_in (read ∷ more) ≡ bytes ++ heard_in more) (counts : (more : List Exchange) → reads_in (read ∷ more) ≡ 1 + reads_in more)
      (asks : (turns : List Turn) (heard spoken : List ℕ) (more : List Exchange) → IsAnswered every turns heard spoken → AnswersAtReads every turns (heard ++ bytes) spoken more →
      AnswersAtReads every turns heard spoken (read ∷ more))
      (now mid new : List Exchange) (to via end : Sides) (reads : ℕ) (listener : Listener D) (known : Recorded now to reads listener)
      (grown : mid ≡ now ++ read ∷ []) (consumed : Consumes to.left via.left bytes) (held : via.held ≡ to.held) (name : via.name ≡ to.name)
      (tells : OnlyTells mid new via end) where
    abbrev all : List Exchange
    all = known.passed ++ read ∷ tells.said

    all_grown : new ≡ begun ++ all
    all_grown =
        tells.grown ∙ ap (λ t. t ++ tells.said) (grown ∙ ap (λ t. t ++ read ∷ []) known.grown)
        ∙ append_assoc (begun ++ known.passed) (read ∷ []) tells.said ∙ append_assoc begun known.passed (read ∷ tells.said)

    all_heard : heard_in all ≡ heard_in known.passed ++ bytes
    all_heard =
        heard_then known.passed (read ∷ tells.said)
        ∙ ap (λ t. heard_in known.passed ++ t) (gives tells.said ∙ ap (λ t. bytes ++ t) (heard_none tells.said tells.are_told) ∙ append-nil bytes)

    all_told : told_in all ≡ told_in known.passed ++ told_in tells.said
    all_told = told_then known.passed (read ∷ tells.said) ∙ ap (λ t. told_in known.passed ++ t) (silent tells.said)

    all_consumed : Consumes from.left end.left (heard_in all)
    all_consumed =
        subst (λ t. Consumes from.left end.left t) (sym all_heard)
        (subst (λ l. Consumes from.left l (heard_in known.passed ++ bytes)) (sym tells.left)
        (consumes_more from.left to.left via.left (heard_in known.passed) bytes known.consumed consumed))

    all_written : Appends from.held end.held (told_in all)
    all_written =
        subst (λ t. Appends from.held end.held t) (sym all_told)
        (Appends-trans from.held to.held end.held (told_in known.passed) (told_in tells.said) known.written
        (subst (λ h. Appends h end.held (told_in tells.said)) held tells.held))

    all_counted : reads_in all ≡ reads + 1
    all_counted =
        omega (arith, reads_then known.passed (read ∷ tells.said), counts tells.said, reads_none tells.said tells.are_told, known.counted)

    answered : IsAnswered every known.turns (heard_in known.passed) (told_in known.passed)
    answered = record {
      own = known.turns;
      later = [];
      split = sym (append-nil known.turns);
      answers = subst (λ l. AnswersLines every [] 1 l known.turns) (sym (ap (λ h. h.ended) known.heard.all)) known.heard.answers;
      text = sym (told_since begun now known.passed (turns_text known.turns) known.grown known.heard.printed);
    }

    all_in_turn : (own : List Turn) → AnswersAtReads every (known.turns ++ own) [] [] all
    all_in_turn own =
        answers_then every (known.turns ++ own) [] [] known.passed (read ∷ tells.said) (answers_later every known.turns own [] [] known.passed known.in_turn)
        (asks (known.turns ++ own) (heard_in known.passed) (told_in known.passed) tells.said
        (answered_later every known.turns own (heard_in known.passed) (told_in known.passed) answered)
        (answers_told every (known.turns ++ own) (heard_in known.passed ++ bytes) (told_in known.passed) tells.said tells.are_told))

    mid_told : told mid ≡ told now
    mid_told = ap (λ t. Some t)
        (ap told_in grown ∙ told_then now (read ∷ []) ∙ ap (λ t. told_in now ++ t) (silent []) ∙ append-nil (told_in now))

    -- the read comes first
    heard_then_read : HasHeard honest story every old (heard_in known.passed) known.turns (told begun) listener (told mid)
    heard_then_read =
        subst (λ t. HasHeard honest story every old (heard_in known.passed) known.turns (told begun) listener t) (sym mid_told) known.heard

    goes_on : (own : List Turn) (next : Listener D) →
        HasHeard honest story every old (heard_in known.passed ++ bytes) (known.turns ++ own) (told begun) next (told new) → Recorded new end (reads + 1) next
    goes_on own next heard = record {
      passed = all;
      grown = all_grown;
      turns = known.turns ++ own;
      heard = subst (λ b. HasHeard honest story every old b (known.turns ++ own) (told begun) next (told new)) (sym all_heard) heard;
      in_turn = all_in_turn own;
      consumed = all_consumed;
      written = all_written;
      name = tells.name ∙ name ∙ known.name;
      counted = all_counted;
    }

    ends_with : (own : List Turn) (after : Story) (result : Result ℕ ReportFault) →
        Finishes honest old after every (heard_in known.passed ++ bytes) (known.turns ++ own) (told begun) (told new) result →
        (LastReads read all → EndsByReads result all) → OnOk result (IsAtEnd end.left) → HasEnded honest old after every begun new from end result
    ends_with own after result finishes ends at_its_end = record {
      passed = all;
      grown = all_grown;
      turns = known.turns ++ own;
      finishes = subst (λ b. Finishes honest old after every b (known.turns ++ own) (told begun) (told new) result) (sym all_heard) finishes;
      in_turn = all_in_turn own;
      ends = ends (record { before = known.passed; after = tells.said; split = refl; are_told = tells.are_told });
      consumed = all_consumed;
      all = at_its_end;
      written = all_written;
      name = tells.name ∙ name ∙ known.name;
    }

  asks_heard : (bytes : List ℕ) (turns : List Turn) (heard spoken : List ℕ) (more : List Exchange) → IsAnswered every turns heard spoken →
      AnswersAtReads every turns (heard ++ bytes) spoken more → AnswersAtReads every turns heard spoken (Hear bytes ∷ more)
  asks_heard bytes turns heard spoken more answered then = (answered, then)

  asks_failed : (why : ReadFault) (turns : List Turn) (heard spoken : List ℕ) (more : List Exchange) → IsAnswered every turns heard spoken →
      AnswersAtReads every turns (heard ++ []) spoken more → AnswersAtReads every turns heard spoken (HearFailed why ∷ more)
  asks_failed why turns heard spoken more answered then = (answered, subst (λ h. AnswersAtReads every turns h spoken more) (append-nil heard) then)

  module _ (now mid : List Exchange) (to via : Sides) (reads : ℕ) (listener : Listener D) (known : Recorded now to reads listener)
      (held : via.held ≡ to.held) (name : via.name ≡ to.name) where
    -- after a read that gave bytes
    pub heard_piece : (bytes : List ℕ) → mid ≡ now ++ Hear bytes ∷ [] → Consumes to.left via.left bytes →
        HasHeard honest story every old (heard_in known.passed) known.turns (told begun) listener (told mid)
    heard_piece bytes grown consumed =
        heard_then_read (Hear bytes) bytes (λ more. refl) (λ more. refl) (λ more. refl) (asks_heard bytes) now mid mid to via via reads listener known grown
        consumed held name (only_none mid via)

    pub piece_done : (bytes : List ℕ) (new : List Exchange) (end : Sides) (own : List Turn) (next : Listener D) → mid ≡ now ++ Hear bytes ∷ [] →
        Consumes to.left via.left bytes → OnlyTells mid new via end →
        HasHeard honest story every old (heard_in known.passed ++ bytes) (known.turns ++ own) (told begun) next (told new) → Recorded new end (reads + 1) next
    piece_done bytes new end own next grown consumed tells heard =
        goes_on (Hear bytes) bytes (λ more. refl) (λ more. refl) (λ more. refl) (asks_heard bytes) now mid new to via end reads listener known grown consumed
        held name tells own next heard

    -- the output failed
    pub piece_broken : (bytes : List ℕ) (new : List Exchange) (end : Sides) (own : List Turn) (after : Story) (fault : ReportFault) → mid ≡ now ++ Hear bytes ∷ [] →
        Consumes to.left via.left bytes → OnlyTells mid new via end → IsOutputFault fault →
        Finishes honest old after every (heard_in known.passed ++ bytes) (known.turns ++ own) (told begun) (told new) (Err fault) →
        HasEnded honest old after every begun new from end (Err fault)
    piece_broken bytes new end own after fault grown consumed tells output finishes =
        ends_with (Hear bytes) bytes (λ more. refl) (λ more. refl) (λ more. refl) (asks_heard bytes) now mid new to via end reads listener known grown consumed
        held name tells own after (Err fault) finishes (λ last. ends_output (Err fault) _ output tt) tt

    -- the input ended
    pub input_ended : (new : List Exchange) (end : Sides) (own : List Turn) (after : Story) (result : Result ℕ ReportFault) → mid ≡ now ++ Hear [] ∷ [] →
        Consumes to.left via.left [] → IsAtEnd via.left → OnlyTells mid new via end → IfErr result IsOutputFault →
        Finishes honest old after every (heard_in known.passed) (known.turns ++ own) (told begun) (told new) result →
        HasEnded honest old after every begun new from end result
    input_ended new end own after result grown consumed over tells fault finishes =
        ends_with (Hear []) [] (λ more. refl) (λ more. refl) (λ more. refl) (asks_heard []) now mid new to via end reads listener known grown consumed
        held name tells own after result
        (subst (λ b. Finishes honest old after every b (known.turns ++ own) (told begun) (told new) result) (sym (append-nil (heard_in known.passed))) finishes)
        (λ last. ends_output result _ fault (on_ok result last)) (at_end result end.left (subst IsAtEnd (sym tells.left) over))

    -- the read failed
    pub heard_nothing : (why : ReadFault) → mid ≡ now ++ HearFailed why ∷ [] → Consumes to.left via.left [] →
        HasHeard honest story every old (heard_in known.passed) known.turns (told begun) listener (told mid)
    heard_nothing why grown consumed =
        heard_then_read (HearFailed why) [] (λ more. refl) (λ more. refl) (λ more. refl) (asks_failed why) now mid mid to via via reads listener known grown
        consumed held name (only_none mid via)

    pub input_failed : (why : ReadFault) (new : List Exchange) (end : Sides) (own : List Turn) (after : Story) (result : Result ℕ ReportFault) →
        mid ≡ now ++ HearFailed why ∷ [] → Consumes to.left via.left [] → OnlyTells mid new via end → OnOk result ⊥ →
        ((other : ReadFault) → result ≡ Err (Input other) → other ≡ why) →
        Finishes honest old after every (heard_in known.passed) (known.turns ++ own) (told begun) (told new) result →
        HasEnded honest old after every begun new from end result
    input_failed why new end own after result grown consumed tells broken same finishes =
        ends_with (HearFailed why) [] (λ more. refl) (λ more. refl) (λ more. refl) (asks_failed why) now mid new to via end reads listener known grown consumed
        held name tells own after result
        (subst (λ b. Finishes honest old after every b (known.turns ++ own) (told begun) (told new) result) (sym (append-nil (heard_in known.passed))) finishes)
        (λ last. ends_input why result _ broken same (inl last)) (none_at_end result end.left broken)

  -- there were too many reads
  pub too_many : (now new : List Exchange) (to end : Sides) (reads : ℕ) (listener : Listener D) (known : Recorded now to reads listener) (own : List Turn)
      (after : Story) (result : Result ℕ ReportFault) → reads ≡ 2 ^ 40 → OnlyTells now new to end → OnOk result ⊥ →
      ((other : ReadFault) → result ≡ Err (Input other) → other ≡ TooLarge) →
      Finishes honest old after every (heard_in known.passed) (known.turns ++ own) (told begun) (told new) result →
      HasEnded honest old after every begun new from end result
  too_many now new to end reads listener known own after result most tells broken same finishes =
      let all : List Exchange = known.passed ++ tells.said in
      let heard : heard_in all ≡ heard_in known.passed =
      heard_then known.passed tells.said ∙ ap (λ t. heard_in known.passed ++ t) (heard_none tells.said tells.are_told) ∙ append-nil (heard_in known.passed) in
      let counted : reads_in all ≡ 2 ^ 40 =
      reads_then known.passed tells.said ∙ ap (λ n. reads_in known.passed + n) (reads_none tells.said tells.are_told) ∙ plus_zero (reads_in known.passed) ∙ known.counted ∙ most in
      record {
        passed = all;
        grown = tells.grown ∙ ap (λ t. t ++ tells.said) known.grown ∙ append_assoc begun known.passed tells.said;
        turns = known.turns ++ own;
        finishes = subst (λ b. Finishes honest old after every b (known.turns ++ own) (told begun) (told new) result) (sym heard) finishes;
        in_turn = answers_then every (known.turns ++ own) [] [] known.passed tells.said (answers_later every known.turns own [] [] known.passed known.in_turn)
            (answers_told every (known.turns ++ own) (heard_in known.passed) (told_in known.passed) tells.said tells.are_told);
        ends = ends_input TooLarge result all broken same (inr (refl, counted));
        consumed = subst (λ t. Consumes from.left end.left t) (sym heard) (subst (λ l. Consumes from.left l (heard_in known.passed)) (sym tells.left) known.consumed);
        all = none_at_end result end.left broken;
        written = subst (λ t. Appends from.held end.held t) (sym (told_then known.passed tells.said))
            (Appends-trans from.held to.held end.held (told_in known.passed) (told_in tells.said) known.written tells.held);
        name = tells.name ∙ known.name;
      }
