use Rattle.std.proofs.Common.{◌≡◌, ◌∙◌, ◌≤◌, ℕ, List, length, take, inl, inr, refl, sym, ap, subst, arith, Err}
use Rattle.std.proofs.lemmas.Bool.{cases_lt}
use Rattle.std.proofs.lemmas.List.{length-take}
use Rattle.fit_disk.specs.State.{seen_in}
use Rattle.fit_disk.specs.Story.{Story, seen_of}
use Rattle.fit_disk.specs.declared.disk.Which.TheVariants.{Data, Journal}
use Rattle.fit_plan.proofs.Lending.{no_failure}
use Rattle.fit_recorder.specs.Calls.Counts.{finding_calls}
use Rattle.fit_recorder.specs.Calls.Windows.{AreAt, FindsBody, ReadsBodyOn}
use Rattle.fit_recorder.specs.Files.Settled.{IsSettled}
use Rattle.fit_recorder.specs.declared.fault.RecFault.TheVariants.{Device}
use Rattle.fit_device.proofs.ByWindows.{led, answers_for, journal_front, front_shows, not_short, number_not_wants, number_not_device}
use Rattle.fit_device.specs.Windowed.{recovery_story}
use Rattle.fit_device.proofs.by_windows.find_body.Goals as goal

settled : (before earlier : Story) → before ≡ earlier → IsSettled (seen_in before.now) before → IsSettled (seen_in earlier.now) earlier
settled before earlier same is = subst (λ (story : Story). IsSettled (seen_in story.now) story) same is

pub lend-journal-requires-clause-front : goal.lend-journal-requires-clause-front
lend-journal-requires-clause-front c =
    let old = c.take_files-files.ensures in
    journal_front c.args.handle.now c.take_files-files.new.self _ c.requires.asks c.requires.finds old.window.0 old.window.1 old.story

pub ask_for_body-requires-clause-reads : goal.ask_for_body-requires-clause-reads
ask_for_body-requires-clause-reads c =
    let lent = c.lend-journal.ensures.story in
    let here = settled _ _ (sym (lent ∙ c.take_files-files.ensures.story)) (c.args.handle.now.settled c.requires.asks.0 c.requires.finds) in
    let found = subst (FindsBody _ c.begin-answer.new.self) c.in-Ok.is (c.begin-answer.ensures.found refl here) in
    (c.in-Ok.ensures.goes_on, subst (λ (story : Story). ReadsBodyOn story c.begin-answer.new.self) (lent ∙ sym c.after-files.ensures.story) found)

pub returns-in-Ok : goal.returns-in-Ok
returns-in-Ok c =
    let old = c.take_files-files.ensures in
    let asked = c.ask_for_body.ensures in
    let left = c.after-files.ensures in
    record {
      planned = led c.args.handle.now c.ask_for_body.new.self c.after-files.new.plan c.take_files-files.result c.take_files-files.result old.since refl (asked.story ∙ left.story) left.planned;
      same = (asked.story ∙ left.story) ∙ old.story;
      asks = λ _. asked.asks;
      ended = λ no. absurd (no refl);
      answers = inl refl;
      device = λ device. absurd (omega (arith, device));
    }

pub returns-in-Err : goal.returns-in-Err
returns-in-Err c =
    let handle = c.args.handle.now in
    let old = c.take_files-files.ensures in
    let put = c.put_files.ensures in
    let left = c.after-files.ensures in
    let lent = c.lend-journal.ensures in
    let fault = c.in-Err.fault in
    let here = settled _ _ (sym (lent.story ∙ old.story)) (handle.settled c.requires.asks.0 c.requires.finds) in
    let found = subst (FindsBody _ c.begin-answer.new.self) c.in-Err.is (c.begin-answer.ensures.found refl here) in
    let seen : List ℕ = seen_of Journal (recovery_story handle) in
    let front : AreAt 0 (take handle.filled handle.window) seen = journal_front handle handle _ c.requires.asks c.requires.finds refl refl refl in
    let within : handle.filled ≤ length seen = omega (arith, ap (λ (bytes : List ℕ). length bytes) front, length-take {A = ℕ}, c.requires.asks.1) in
    let whole : length seen ≤ handle.filled → fault ≡ Device → ⊥ =
    λ long device. no_failure finding_calls _ c.lend-journal.result c.begin-answer.new.disk (lent.whole (omega (arith, old.window.0, long, within, handle.journal_sized))) (omega arith) c.begin-answer.ensures.ran (c.begin-answer.ensures.same refl) (c.in-Err.is ∙ ap Err device) in
    let placed = (handle.placed c.requires.asks.0).finds c.requires.finds in
    let size : length (seen_in (recovery_story handle).now).in_data ≡ c.after-files.result.size = ap (λ (story : Story). length (seen_of Data story)) (sym (left.story ∙ old.story)) ∙ sym c.after-files.result.sized in
    let shown : take 3 seen ≡ take 3 c.given.result.now =
    sym (ap (take 3) (c.given.ensures.bytes ∙ ap (λ (n : ℕ). take n c.take_files-files.new.self.window) old.window.0 ∙ ap (λ (bytes : List ℕ). take handle.filled bytes) old.window.1) ∙ front_shows 3 _ seen front (omega (arith, ap (λ (bytes : List ℕ). length bytes) front, length-take {A = ℕ}, c.requires.asks.1, placed.2, handle.journal_sized, not_short handle c.requires.full))) in
    let code = c.number_of-code.ensures (seen_in (recovery_story handle).now) size shown in
    record {
      planned = led handle c.put_files.new.self c.after-files.new.plan c.take_files-files.result c.take_files-files.result old.since refl (put.story ∙ left.story) left.planned;
      same = (put.story ∙ left.story) ∙ old.story;
      ended = λ _. put.ended;
      asks = λ wants. absurd (number_not_wants _ fault _ code wants);
      answers = inr (fault, code, answers_for (Err fault) _ _ _ _ (lent.story ∙ old.story) (lent.story ∙ sym (put.story ∙ left.story)) found);
      device = λ device. (
        c.requires.finds,
        elim (cases_lt handle.filled (length seen)) [
          | inl short ↦ short
          | inr long ↦ absurd (number_not_device _ fault _ code (whole long) device)
        ],
      );
    }
