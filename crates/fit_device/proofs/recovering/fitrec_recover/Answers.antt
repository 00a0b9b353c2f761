use Rattle.std.proofs.Common.{◌≡◌, ◌∙◌, ℕ, List, length, take, refl, sym, ap, arith, Ok, Err}
use Rattle.fit_disk.specs.State.{seen_in}
use Rattle.fit_disk.specs.Story.{Story, seen_of}
use Rattle.fit_disk.specs.declared.disk.Which.TheVariants.{Data, Journal}
use Rattle.fit_plan.specs.Plan.{plan_story}
use Rattle.fit_recorder.specs.declared.fault.RecFault.TheVariants.{Device}
use Rattle.fit_device.proofs.ByWindows.{answers_for, counted_for, number_not_device, number_not_zero}
use Rattle.fit_device.specs.Planned.{carried_out}
use Rattle.fit_device.proofs.Leading.{leads_since}
use Rattle.fit_device.proofs.Lending.{chosen_sound, chosen_lent, chosen_is, in_recovery, no_recovery, refusal_for}
use Rattle.fit_device.proofs.recovering.fitrec_recover.Goals as goal

pub lent-files-requires : goal.lent-files-requires
lent-files-requires g c = (
  chosen_sound g.before _ _ (λ i. omega (arith, c.type_inv.data_bytes i)) (λ i. omega (arith, c.type_inv.journal_bytes i)),
  chosen_lent g.before c.args.data_bytes.now c.args.journal_bytes.now,
)

pub recover-requires-clause-lent : goal.recover-requires-clause-lent
recover-requires-clause-lent g c =
    let same = c.lent-files.ensures.story in
    let lent = chosen_lent g.before c.args.data_bytes.now c.args.journal_bytes.now in
    (ap (λ (story : Story). seen_of Data story) same ∙ lent.0, ap (λ (story : Story). seen_of Journal story) same ∙ lent.1)

pub returns-in-Ok : goal.returns-in-Ok
returns-in-Ok g c lent =
    let here = c.lent-files.ensures.story ∙ chosen_is g.before c.args.data_bytes.now c.args.journal_bytes.now lent in
    let did = c.in-Ok.ensures in
    let leads = leads_since c.fill.new.self c.lent-files.result c.recover.new.files g.before.story _ _ (c.lent-files.ensures.begun.since ∙ here) did.memory refl c.fill.ensures in
    record {
      well_formed = leads.well_formed;
      answer = Ok c.in-Ok.field-0;
      code_is = refl;
      decides = answers_for (Ok c.in-Ok.field-0) _ _ _ _ here leads.ends did.decides;
      checked = λ _. counted_for _ _ _ _ here leads.ends did.checked;
      refused = λ no. absurd (no refl);
      no_device = λ device. omega (arith, device);
      any_moment = in_recovery _ _ _ _ here leads.ends did.any_moment;
    }

pub returns-in-Err : goal.returns-in-Err
returns-in-Err g c lent =
    let here = c.lent-files.ensures.story ∙ chosen_is g.before c.args.data_bytes.now c.args.journal_bytes.now lent in
    let leads = c.clear.ensures.leads g.before.story in
    let fault = c.in-Err.fault in
    let is = c.number_of.ensures (seen_in g.before.story.now) (ap (λ (bytes : List ℕ). length bytes) lent.0) (ap (take 3) lent.1) in
    record {
      well_formed = leads.well_formed;
      answer = Err fault;
      code_is = is;
      decides = refusal_for fault _ _ (plan_story c.recover.new.files) (carried_out c.clear.new.self g.before.story) (ap (λ (story : Story). seen_in story.now) here) c.in-Err.ensures.decides;
      checked = λ zero. absurd (number_not_zero _ fault _ is zero);
      refused = λ _. (c.clear.ensures.none, sym leads.ends);
      no_device = number_not_device _ fault _ is (λ (device : fault ≡ Device). c.recover.ensures.no_device (c.in-Err.is ∙ ap Err device));
      any_moment = no_recovery _ _ (sym leads.ends);
    }
