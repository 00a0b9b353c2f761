use Rattle.std.proofs.Common.{◌≤◌, true, ℕ, length}
use Rattle.fit_disk.proofs.Sound.{cut_sound}
use Rattle.fit_disk.specs.declared.disk.Which.{Which}
use Rattle.fit_disk.specs.declared.disk.Which.TheVariants.{Data, Journal}
use Rattle.fit_disk.specs.Calls.{IsSound}
use Rattle.fit_disk.specs.Changes.{after_cut}
use Rattle.fit_disk.specs.Story.{Story, seen_of}
use Rattle.fit_plan.proofs.journal.LentJournalDisk.cut.Goals as goal

stays_sound : (which : Which) (len : ℕ) (story : Story) → len ≤ length (seen_of which story) → IsSound story.now
    → IsSound (after_cut true which len story).now
stays_sound Data len story within sound = record { data_left = cut_sound len story.now.data_file within sound.data_left; journal_left = sound.journal_left }
stays_sound Journal len story within sound = record { data_left = sound.data_left; journal_left = cut_sound len story.now.journal_file within sound.journal_left }

pub invariant_of-self-2-clause-sound : goal.invariant_of-self-2-clause-sound
invariant_of-self-2-clause-sound c =
    let old = c.args.self.now in
    rw (c.note.ensures.0) (stays_sound c.args.which c.args.len old.notes.story c.requires old.sound)
