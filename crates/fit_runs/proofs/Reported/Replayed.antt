-- How many replies were refusals and which lines were put, with one more event: for `playing`.
use Rattle.std.proofs.Common.{◌≡◌, ◌<◌, ◌≤◌, ◌+◌, ℕ, Bool, true, false, List, [], ◌∷◌, ◌++◌, Option, Ok, length, get_or, drop, refl, ◌∙◌, ap, append-nil, append_assoc, length-append, subst, arith, codes, sym}
use Rattle.std.proofs.KnownBytes.{Appends-trans}
use Rattle.std.specs.Io.KnownBytes.{Appends}
use Rattle.std.proofs.lemmas.List.{drop_more, drop_all}
use Rattle.fit_disk.specs.Story.{Story}
use Rattle.fit_grammar.specs.Calls.Output.{AppendsBeginning}
use Rattle.fit_text.proofs.PenLemmas.{continues_none, continues_then, puts_written}
use Rattle.fit_text.specs.Pen.{Written, Continues, AddsBytes}
use Rattle.fit_histories.specs.declared.event.Event.{Event}
use Rattle.fit_histories.specs.declared.reply.Reply.{Reply}
use Rattle.fit_histories.specs.Rides.Replies.{is_ok, MayReply, rides_on, MayReplyAll, refusals}
use Rattle.fit_runs.specs.Printed.ReplyLines.{line_text, lines_text, AreReported}
use Rattle.fit_runs.specs.Rides.Played.{LeavesAfter, BreaksOff}

-- these replies may come to all events, so many of them are refusals, and this is their text
pub record Counted (events : List Event) (replies : List Reply) (refused : ℕ) (text : List ℕ) : Type 0 where
  pub may : MayReplyAll false events replies
  pub counted : refused ≡ refusals replies
  pub lines : text ≡ lines_text events replies

-- These were the replies before the remaining events, so many are refusals, and their lines were put into a pen. With any replies that
-- may come to further events, `Counted` holds of all of them.
pub record LeadsTo (events : List Event) (riding : Bool) (left : List Event) (stated : List Reply) (refused : ℕ) (old new : Written) : Type 0 where
  pub played : List Event
  pub begins : events ≡ played ++ left
  pub each : length played ≡ length stated
  pub text : List ℕ
  pub lines : text ≡ lines_text played stated
  pub put : AddsBytes old text new
  pub leads : (more : List Event) (rest : List Reply) → MayReplyAll riding more rest →
      Counted (played ++ more) (stated ++ rest) (refused + refusals rest) (text ++ lines_text more rest)

-- before the first event
pub none_yet : (events : List Event) (pen : Written) → LeadsTo events false events [] 0 pen pen
none_yet events pen = record {
  played = [];
  begins = refl;
  each = refl;
  text = [];
  lines = refl;
  put = (refl, continues_none pen);
  leads = λ more rest all. record { may = all; counted = omega arith; lines = refl };
}

-- one more line
lines_more : (played : List Event) (stated : List Reply) (event : Event) (reply : Reply) → length played ≡ length stated →
    lines_text (played ++ event ∷ []) (stated ++ reply ∷ []) ≡ lines_text played stated ++ (line_text event reply ++ codes "\n")
lines_more [] [] event reply each = append-nil (line_text event reply ++ codes "\n")
lines_more [] (first ∷ stated) event reply each = absurd (omega arith)
lines_more (first ∷ played) [] event reply each = absurd (omega arith)
lines_more (first ∷ played) (before ∷ stated) event reply each =
    let line : List ℕ = line_text first before ++ codes "\n" in
    ap (λ text. line ++ text) (lines_more played stated event reply (omega arith))
    ∙ sym (append_assoc line (lines_text played stated) (line_text event reply ++ codes "\n"))

after : (events left : List Event) (riding next : Bool) (event : Event) (stated : List Reply) (reply : Reply) (refused now : ℕ) (o m n : Written) →
    LeadsTo events riding (event ∷ left) stated refused o m → MayReply riding event.command reply → next ≡ rides_on riding event.command reply →
    ((rest : List Reply) → now + refusals rest ≡ refused + refusals (reply ∷ rest)) → AddsBytes m (line_text event reply ++ codes "\n") n →
    LeadsTo events next left (stated ++ reply ∷ []) now o n
after events left riding next event stated reply refused now o m n known may is counts put =
    let line : List ℕ = line_text event reply ++ codes "\n" in
    record {
      played = known.played ++ event ∷ [];
      begins = known.begins ∙ sym (append_assoc known.played (event ∷ []) left);
      each = simp length-append (omega (arith, known.each));
      text = known.text ++ line;
      lines = ap (λ text. text ++ line) known.lines ∙ sym (lines_more known.played stated event reply known.each);
      put = (put.0 ∙ known.put.0, continues_then o m n known.text line known.put.1 put.1);
      leads = λ more rest all.
          let text : List ℕ = known.text ++ lines_text (event ∷ more) (reply ∷ rest) in
          let one_reply : stated ++ reply ∷ rest ≡ (stated ++ reply ∷ []) ++ rest = sym (append_assoc stated (reply ∷ []) rest) in
          let one_event : known.played ++ event ∷ more ≡ (known.played ++ event ∷ []) ++ more = sym (append_assoc known.played (event ∷ []) more) in
          let outcome =
          subst (λ events. Counted events ((stated ++ reply ∷ []) ++ rest) (refused + refusals (reply ∷ rest)) text) one_event
          (subst (λ replies. Counted (known.played ++ event ∷ more) replies (refused + refusals (reply ∷ rest)) text) one_reply
          (known.leads (event ∷ more) (reply ∷ rest) (may, rw is at all))) in
          record {
            may = outcome.may;
            counted = counts rest ∙ outcome.counted;
            lines = append_assoc known.text line (lines_text more rest) ∙ outcome.lines;
          };
    }

-- one more event
pub one_ok : (events : List Event) (i : ℕ) (d : Event) (riding next : Bool) (stated : List Reply) (reply : Reply) (refused : ℕ) (o m n : Written) →
    i < length events → LeadsTo events riding (drop i events) stated refused o m → MayReply riding (get_or events i d).command reply →
    next ≡ rides_on riding (get_or events i d).command reply → is_ok reply ≡ true →
    AddsBytes m (line_text (get_or events i d) reply ++ codes "\n") n → LeadsTo events next (drop (i + 1) events) (stated ++ reply ∷ []) refused o n
one_ok events i d riding next stated reply refused o m n within known may is ok put =
    after events (drop (i + 1) events) riding next (get_or events i d) stated reply refused refused o m n
    (subst (λ left. LeadsTo events riding left stated refused o m) (drop_more events i d within) known) may is (λ rest. rw ok refl) put

pub one_refused : (events : List Event) (i : ℕ) (d : Event) (riding next : Bool) (stated : List Reply) (reply : Reply) (refused : ℕ) (o m n : Written) →
    i < length events → LeadsTo events riding (drop i events) stated refused o m → MayReply riding (get_or events i d).command reply →
    next ≡ rides_on riding (get_or events i d).command reply → is_ok reply ≡ false →
    AddsBytes m (line_text (get_or events i d) reply ++ codes "\n") n → LeadsTo events next (drop (i + 1) events) (stated ++ reply ∷ []) (refused + 1) o n
one_refused events i d riding next stated reply refused o m n within known may is not_ok put =
    after events (drop (i + 1) events) riding next (get_or events i d) stated reply refused (refused + 1) o m n
    (subst (λ left. LeadsTo events riding left stated refused o m) (drop_more events i d within) known) may is (λ rest. rw not_ok (omega arith)) put

-- after the last event, if nothing waits
pub at_the_end : (events : List Event) (i : ℕ) (riding : Bool) (stated : List Reply) (refused : ℕ) (o n : Written) (Known : List Reply → Type 0) →
    length events ≤ i → o.waiting ≡ [] → n.waiting ≡ [] → LeadsTo events riding (drop i events) stated refused o n → Known stated →
    AreReported events Known refused o.held n.held
at_the_end events i riding stated refused o n Known past none_before none so_far known =
    let end = subst (λ left. LeadsTo events riding left stated refused o n) (drop_all i events past) so_far in
    let outcome =
    subst (λ events. Counted events stated (refused + 0) (end.text ++ [])) (sym end.begins)
    (subst (λ replies. Counted (end.played ++ []) replies (refused + 0) (end.text ++ [])) (append-nil stated) (end.leads [] [] tt)) in
    let whole : end.text ≡ lines_text events stated = sym (append-nil end.text) ∙ outcome.lines in
    record {
      replies = stated;
      may = outcome.may;
      known = known;
      counted = omega (arith, outcome.counted);
      printed =
          (puts_written {E = ℕ} o n (Ok (tt {0})) (lines_text events stated) none_before none
          (record { same = end.put.0; all = subst (Continues o n) whole end.put.1; beginning = tt })).all;
    }

-- if the line of an event is cut short
pub cut_off : (checked honest : Bool) (old new : Story) (events : List Event) (i : ℕ) (d : Event) (riding : Bool) (stated : List Reply) (reply : Reply)
    (refused : ℕ) (o m : Written) (held : Option (List ℕ)) → i < length events → o.waiting ≡ [] → m.waiting ≡ [] →
    LeadsTo events riding (drop i events) stated refused o m → MayReply riding (get_or events i d).command reply →
    AppendsBeginning m.held held (m.waiting ++ (line_text (get_or events i d) reply ++ codes "\n")) →
    ((played : List Event) → events ≡ played ++ drop (i + 1) events → LeavesAfter checked honest old new played (stated ++ reply ∷ [])) →
    BreaksOff checked honest old new events o.held held
cut_off checked honest old new events i d riding stated reply refused o m held within none_before none known may cut leaves =
    let last = get_or events i d in
    let line : List ℕ = line_text last reply ++ codes "\n" in
    let begins : events ≡ known.played ++ last ∷ drop (i + 1) events =
    known.begins ∙ ap (λ left. known.played ++ left) (drop_more events i d within) in
    let lines : Appends o.held m.held (lines_text known.played stated) =
    (puts_written {E = ℕ} o m (Ok (tt {0})) (lines_text known.played stated) none_before none
    (record { same = known.put.0; all = subst (Continues o m) known.lines known.put.1; beginning = tt })).all in
    record {
      played = known.played;
      last = last;
      left = drop (i + 1) events;
      begins = begins;
      replies = stated;
      reply = reply;
      may = (known.leads (last ∷ []) (reply ∷ []) (may, tt)).may;
      leaves = leaves (known.played ++ last ∷ []) (begins ∙ sym (append_assoc known.played (last ∷ []) (drop (i + 1) events)));
      part = cut.part;
      rest = cut.rest;
      cut_short = ap (λ waiting. waiting ++ line) (sym none) ∙ cut.split;
      printed = Appends-trans o.held m.held held (lines_text known.played stated) cut.part lines cut.appended;
    }
