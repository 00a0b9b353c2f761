use Rattle.std.proofs.lemmas.Bool.{cases_lt}
use Rattle.std.proofs.Common.{◌≡◌, ℕ, List, [], length, inl, inr, refl, sym, ap, subst, arith}
use Rattle.std.specs.Prelude.{◌-◌, is_err}
use Rattle.fit_disk.specs.Stored.{at_rest}
use Rattle.fit_disk.specs.Story.{Story, seen_of}
use Rattle.fit_disk.specs.declared.disk.Which.TheVariants.{Journal}
use Rattle.fit_plan.specs.Plan.{plan_story}
use Rattle.fit_recorder.specs.Calls.Windows.{AreAt}
use Rattle.fit_journal.specs.Calls.{forget_bytes}
use Rattle.fit_plan.proofs.Room.{has_room}
use Rattle.fit_recorder.specs.Calls.Counts.{erase_calls}
use Rattle.fit_device.proofs.ByWindows.{journal_front, front_shows}
use Rattle.fit_device.proofs.Leading.{leads_since}
use Rattle.fit_device.proofs.Lending.{moments, no_erasing}
use Rattle.fit_device.proofs.by_windows.fitrec_erase_next.Goals as goal

pub returns-then-not-asks_for_journal : goal.returns-then-not-asks_for_journal
returns-then-not-asks_for_journal c = record {
  well_formed = (c.clear.ensures.leads _).well_formed;
  none = λ _. (refl, refl);
  known = λ asks. let clash = c.if-not-asks_for_journal.ensures.1 asks in absurd cc;
  ok = λ zero. absurd (omega (arith, zero));
  refused = λ _. (c.clear.ensures.none, sym (c.clear.ensures.leads _).ends);
  device = λ device. absurd (omega (arith, device));
  any_moment = λ asks. let clash = c.if-not-asks_for_journal.ensures.1 asks in absurd cc;
}

pub returns-in-Ok : goal.returns-in-Ok
returns-in-Ok c =
    let old = c.take_files-files.ensures in
    let leads = leads_since c.fill.new.self c.take_files-files.result c.erase_known.new.disk c.args.recovery.now.notes.story _ _ old.since c.erase_known.ensures.ran.ran.memory refl c.fill.ensures in
    record {
      well_formed = leads.well_formed;
      none = λ no. absurd (no (c.if-not-asks_for_journal.ensures.0 refl));
      known = λ _. (inl refl, old.ended);
      ok = λ _. subst (λ (story : Story). story.now.data_file ≡ at_rest []) leads.ends (c.in-Ok.ensures.empty refl);
      refused = λ no. absurd (no refl);
      device = λ device. absurd (omega (arith, device));
      any_moment = λ _. moments _ _ _ _ old.story leads.ends (c.erase_known.ensures.any_moment refl);
    }

-- a plan has room for an erasing
pub returns-in-Err : goal.returns-in-Err
returns-in-Err c =
    absurd (has_room (erase_calls - 1) forget_bytes _ c.take_files-files.result c.erase_known.new.disk c.take_files-files.ensures.none.0 c.take_files-files.ensures.none.1 (omega arith) (omega arith) c.erase_known.ensures.ran.room
    (ap is_err c.in-Err.is))

pub erase_known-requires : goal.erase_known-requires
erase_known-requires c honest =
    let handle = c.args.recovery.now in
    let old = c.take_files-files.ensures in
    let asks = c.if-not-asks_for_journal.ensures.0 refl in
    let front = journal_front handle c.take_files-files.new.self _ asks.0 asks.1 old.window.0 old.window.1 old.story in
    front_shows 1 c.given.result.now _ (subst (λ (bytes : List ℕ). AreAt 0 bytes (seen_of Journal (plan_story c.take_files-files.result))) (sym c.given.ensures.bytes) front)
    (elim (cases_lt 0 handle.filled) [
      | inl some ↦ omega (arith, some, c.given.ensures.long, old.window.0)
      | inr none ↦ omega (arith, c.if-lacks_front.ensures.no refl (omega (arith, none)), handle.journal_sized, ap (λ (story : Story). length (seen_of Journal story)) old.story)
    ])

pub returns-then-lacks_front : goal.returns-then-lacks_front
returns-then-lacks_front c =
    let handle = c.args.recovery.now in
    let gave_up = c.fails.ensures in
    let leads = gave_up.leads handle.notes.story in
    let five = gave_up.code in
    let lacks = c.if-lacks_front.ensures.yes refl in
    record {
      well_formed = leads.well_formed;
      none = λ no. absurd (no (c.if-not-asks_for_journal.ensures.0 refl));
      known = λ _. (inr five, gave_up.ended);
      ok = λ zero. absurd (omega (arith, five, zero));
      refused = λ _. (gave_up.none, sym leads.ends);
      device = λ _. (lacks.0, omega (arith, lacks.1, handle.journal_sized));
      any_moment = λ _. no_erasing _ _ (sym leads.ends);
    }
