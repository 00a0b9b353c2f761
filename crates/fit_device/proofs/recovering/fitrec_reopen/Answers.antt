use Rattle.std.proofs.Common.{◌≡◌, ◌∙◌, ℕ, List, length, take, refl, sym, ap, subst, arith, Ok, Err}
use Rattle.fit_disk.specs.State.{seen_in}
use Rattle.fit_disk.specs.Story.{Story, seen_of}
use Rattle.fit_disk.specs.declared.disk.Which.TheVariants.{Data, Journal}
use Rattle.fit_plan.specs.Plan.{plan_story}
use Rattle.fit_recorder.specs.Calls.Resume.{IsRefusedFor}
use Rattle.fit_recorder.specs.Calls.Ride.{TakesUp}
use Rattle.fit_recorder.specs.declared.fault.RecFault.TheVariants.{Device}
use Rattle.fit_device.specs.Recovering.{GoesOnWith}
use Rattle.fit_device.proofs.ByWindows.{counted_for, number_not_device, number_not_zero}
use Rattle.fit_device.proofs.Leading.{leads_since}
use Rattle.fit_device.proofs.Lending.{chosen_sound, chosen_lent, chosen_is, in_recovery, no_recovery}
use Rattle.fit_device.proofs.recovering.fitrec_reopen.Goals as goal

pub lent-files-requires : goal.lent-files-requires
lent-files-requires g c = (
  chosen_sound g.before _ _ (λ i. omega (arith, c.type_inv.data_bytes i)) (λ i. omega (arith, c.type_inv.journal_bytes i)),
  chosen_lent g.before c.args.data_bytes.now c.args.journal_bytes.now,
)

pub take_up-requires-clause-lent : goal.take_up-requires-clause-lent
take_up-requires-clause-lent g c =
    let same = c.lent-files.ensures.story in
    let lent = chosen_lent g.before c.args.data_bytes.now c.args.journal_bytes.now in
    (ap (λ (story : Story). seen_of Data story) same ∙ lent.0, ap (λ (story : Story). seen_of Journal story) same ∙ lent.1)

pub put_ride-requires-clause-taken : goal.put_ride-requires-clause-taken
put_ride-requires-clause-taken g c =
    let before = seen_in (plan_story c.lent-files.result).now in
    (before, subst (λ (story : Story). TakesUp before story (Ok c.in-Ok.ride)) (sym c.after.ensures.story) c.in-Ok.ensures.taken)

pub returns-in-Ok : goal.returns-in-Ok
returns-in-Ok g c lent =
    let here = c.lent-files.ensures.story ∙ chosen_is g.before c.args.data_bytes.now c.args.journal_bytes.now lent in
    let did = c.in-Ok.ensures in
    let put = c.put_ride.ensures in
    let left = c.after.ensures in
    let after = sym (put.story ∙ left.story) in
    let leads = leads_since c.after.new.plan c.lent-files.result c.take_up.new.files g.before.story _ _ (c.lent-files.ensures.begun.since ∙ here) did.memory after left.planned in
    record {
      well_formed = leads.well_formed;
      ok = λ _. (
        leads.ends,
        subst (λ (story : Story). GoesOnWith (seen_in story.now) c.put_ride.new.self) here (put.goes_on _ (subst (λ (story : Story). TakesUp (seen_in (plan_story c.lent-files.result).now) story (Ok c.in-Ok.ride)) (sym left.story) did.taken)),
      );
      checked = λ _. counted_for _ _ _ _ here after did.checked;
      refused = λ no. absurd (no refl);
      same = λ no. absurd (no refl);
      no_device = λ device. omega (arith, device);
      any_moment = in_recovery _ _ _ _ here (after ∙ leads.ends) did.any_moment;
    }

pub returns-in-Err : goal.returns-in-Err
returns-in-Err g c lent =
    let here = c.lent-files.ensures.story ∙ chosen_is g.before c.args.data_bytes.now c.args.journal_bytes.now lent in
    let leads = c.clear.ensures.leads g.before.story in
    let fault = c.in-Err.fault in
    let is = c.number_of.ensures (seen_in g.before.story.now) (ap (λ (bytes : List ℕ). length bytes) lent.0) (ap (take 3) lent.1) in
    record {
      well_formed = leads.well_formed;
      ok = λ zero. absurd (number_not_zero _ fault _ is zero);
      checked = λ zero. absurd (number_not_zero _ fault _ is zero);
      refused = λ _. (
        (fault, is, subst (λ (story : Story). IsRefusedFor (seen_in story.now) fault) here c.in-Err.ensures.taken),
        c.leave.ensures,
        c.clear.ensures.none,
      );
      same = λ _. sym leads.ends;
      no_device = number_not_device _ fault _ is (λ (device : fault ≡ Device). c.take_up.ensures.no_device (c.in-Err.is ∙ ap Err device));
      any_moment = no_recovery _ _ (sym leads.ends);
    }
