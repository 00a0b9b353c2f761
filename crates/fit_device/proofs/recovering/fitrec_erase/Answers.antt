use Rattle.std.proofs.Common.{◌≡◌, ◌∙◌, [], take, refl, sym, ap, subst, arith}
use Rattle.std.specs.Prelude.{◌-◌, is_err}
use Rattle.fit_disk.specs.Stored.{at_rest}
use Rattle.fit_disk.specs.Story.{Story, seen_of}
use Rattle.fit_disk.specs.declared.disk.Which.TheVariants.{Journal}
use Rattle.fit_journal.specs.Calls.{forget_bytes}
use Rattle.fit_plan.proofs.Room.{has_room}
use Rattle.fit_recorder.specs.Calls.Counts.{erase_calls}
use Rattle.fit_device.proofs.Leading.{leads_since}
use Rattle.fit_device.proofs.Lending.{chosen_sound, chosen_lent, chosen_is, moments}
use Rattle.fit_device.proofs.recovering.fitrec_erase.Goals as goal

pub lent-files-requires : goal.lent-files-requires
lent-files-requires g c = (
  chosen_sound g.before _ _ (λ i. omega (arith, c.type_inv.data_bytes i)) (λ i. omega (arith, c.type_inv.journal_bytes i)),
  chosen_lent g.before c.args.data_bytes.now c.args.journal_bytes.now,
)

pub erase_known-requires : goal.erase_known-requires
erase_known-requires g c honest =
    sym (ap (take 1) (ap (λ (story : Story). seen_of Journal story) c.lent-files.ensures.story ∙ (chosen_lent g.before c.args.data_bytes.now c.args.journal_bytes.now).1))

pub returns-in-Ok : goal.returns-in-Ok
returns-in-Ok g c lent =
    let here = c.lent-files.ensures.story ∙ chosen_is g.before c.args.data_bytes.now c.args.journal_bytes.now lent in
    let leads = leads_since c.fill.new.self c.lent-files.result c.erase_known.new.disk g.before.story _ _ (c.lent-files.ensures.begun.since ∙ here) c.erase_known.ensures.ran.ran.memory refl c.fill.ensures in
    record {
      well_formed = leads.well_formed;
      zero = refl;
      empty = subst (λ (story : Story). story.now.data_file ≡ at_rest []) leads.ends (c.in-Ok.ensures.empty refl);
      any_moment = moments _ _ _ _ here leads.ends (c.erase_known.ensures.any_moment refl);
    }

-- a plan has room for an erasing
pub returns-in-Err : goal.returns-in-Err
returns-in-Err g c lent =
    let begun = c.lent-files.ensures.begun in
    absurd (has_room (erase_calls - 1) forget_bytes _ c.lent-files.result c.erase_known.new.disk begun.counts begun.room (omega arith) (omega arith) c.erase_known.ensures.ran.room (ap is_err c.in-Err.is))
