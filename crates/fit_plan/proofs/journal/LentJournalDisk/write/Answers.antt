use Rattle.std.proofs.Common.{◌≤◌, true, ℕ, List, length, arith}
use Rattle.fit_disk.proofs.Sound.{write_sound}
use Rattle.fit_disk.specs.declared.disk.Which.{Which}
use Rattle.fit_disk.specs.declared.disk.Which.TheVariants.{Data, Journal}
use Rattle.fit_disk.specs.Calls.{IsSound}
use Rattle.fit_disk.specs.Story.{Story, seen_of}
use Rattle.fit_disk.specs.Content.{IsBytes}
use Rattle.fit_disk.specs.Changes.{after_write}
use Rattle.fit_plan.proofs.journal.LentJournalDisk.write.Goals as goal

stays_sound : (which : Which) (at : ℕ) (bytes : List ℕ) (story : Story) → at ≤ length (seen_of which story) → IsBytes bytes → IsSound story.now
    → IsSound (after_write true which at bytes story).now
stays_sound Data at bytes story within are sound = record {
  data_left = write_sound at bytes story.now.data_file within are sound.data_left;
  journal_left = sound.journal_left;
}
stays_sound Journal at bytes story within are sound = record {
  data_left = sound.data_left;
  journal_left = write_sound at bytes story.now.journal_file within are sound.journal_left;
}

pub invariant_of-self-2-clause-sound : goal.invariant_of-self-2-clause-sound
invariant_of-self-2-clause-sound c =
    let old = c.args.self.now in
    rw (c.note.ensures.0) (stays_sound c.args.which c.args.at c.args.bytes.now old.notes.story c.requires (λ i. omega (arith, c.type_inv.bytes i)) old.sound)
