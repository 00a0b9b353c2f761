use Rattle.std.proofs.Common.{◌≡◌, ◌<◌, ◌≤◌, ◌+◌, ◌++◌, ℕ, List, [], ◌∷◌, Result, length, get_or, drop, refl, subst, append-nil, codes}
use Rattle.std.proofs.lemmas.List.{drop_more, drop_all}
use Rattle.fit_text.proofs.PenLemmas.{Leaves, leaves_less, leaves_none, leaves_off, puts_same, puts_then}
use Rattle.fit_text.specs.Pen.{Written, Puts}
use Rattle.fit_histories.specs.declared.event.Event.{Event}
use Rattle.fit_files.specs.declared.fault.ReportFault.{ReportFault}
use Rattle.fit_histories.specs.declared.reply.Reply.{Reply}
use Rattle.fit_runs.specs.Printed.ReplyLines.{line_text, lines_text}
use Rattle.fit_runs.proofs.simulating.put_replies.Goals as goal
use Rattle.fit_runs.proofs.simulating.put_replies.Goals.{else-loop-index-test, then-loop-index-test+in_default}

-- the lines from the i-th event on
abbrev lines_from : List Event → List Reply → ℕ → List ℕ
lines_from events replies i = lines_text (drop i events) (drop i replies)

first_line : (events : List Event) (replies : List Reply) (i : ℕ) (d : Event) (reply : Reply) → i < length events →
    i < length replies → reply ≡ get_or replies i reply →
    lines_from events replies i ≡ (line_text (get_or events i d) reply ++ codes "\n") ++ lines_from events replies (i + 1)
first_line events replies i d reply within found is =
    rw (drop_more events i d within, drop_more replies i reply found, ← is) refl

no_reply : (events : List Event) → lines_text events [] ≡ []
no_reply [] = refl
no_reply (event ∷ events) = refl

no_more : (events : List Event) (replies : List Reply) (i : ℕ) → length replies ≤ i → lines_from events replies i ≡ []
no_more events replies i past = rw (drop_all i replies past) (no_reply (drop i events))

no_event : (events : List Event) (replies : List Reply) (i : ℕ) → length events ≤ i → lines_from events replies i ≡ []
no_event events replies i past = rw (drop_all i events past) refl

-- no event is left, and all lines were handed over
all_lines : {T E : Type 0} (o m n : Written) (text left : List ℕ) (flushed : Result T E) → left ≡ [] → Leaves o m text left →
    Puts m n flushed [] → Puts o n flushed text
all_lines o m n text left flushed none leaves flush =
    puts_same (puts_then (leaves_none {E = ReportFault} (tt {0}) (subst (Leaves o m text) none leaves)) flush) (append-nil text)

pub loop-index-preserved : goal.loop-index-preserved
loop-index-preserved g c =
    let found = c.in-Some.ensures.lookup in
    leaves_less _ c.loop-index.invariant c.in_ok-put_line.ensures.line
    (first_line c.args.events.now c.args.replies.now c.loop-index.index _ c.in-Some.reply.now c.loop-index-test.true found.3.0 found.1)

pub returns-in_err-put_line-clause-lines : goal.returns-in_err-put_line-clause-lines
returns-in_err-put_line-clause-lines g c =
    let found = c.in-Some.ensures.lookup in
    leaves_off _ c.from_residual.ensures.0 c.loop-index.invariant c.in_err-put_line.ensures.line
    (first_line c.args.events.now c.args.replies.now c.loop-index.index _ c.in-Some.reply.now c.loop-index-test.true found.3.0 found.1)

pub returns-clause-lines : goal.returns-clause-lines
returns-clause-lines g c =
    let events = c.args.events.now in
    let replies = c.args.replies.now in
    elim c.loop-index-test.branch [
      | else-loop-index-test w ↦
          all_lines _ _ _ _ _ c.flush.result (no_event events replies c.loop-index.index w.loop-index-test.false) c.loop-index.invariant c.flush.ensures.all
      | then-loop-index-test+in_default w ↦
          all_lines _ _ _ _ _ c.flush.result (no_more events replies c.loop-index.index w.in_default.ensures.lookup.3) c.loop-index.invariant c.flush.ensures.all
    ]
