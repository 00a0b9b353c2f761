use Rattle.std.proofs.Common.{◌≤◌, length, subst, sym, ap, ◌∙◌, arith}
use Rattle.fit_disk.specs.Content.{over}
use Rattle.fit_disk.specs.Story.{seen_of}
use Rattle.fit_disk.proofs.Sound.{write_sound}
use Rattle.fit_disk.proofs.buffers.BuffersDisk.write.Goals as goal
use Rattle.fit_disk.proofs.buffers.BuffersDisk.write.Goals.{in-Data, in-Journal}

pub invariant_of-self-2-clause-in_data : goal.invariant_of-self-2-clause-in_data
invariant_of-self-2-clause-in_data c =
    let old = c.args.self.now in
    elim c.match-which.branch [
      | in-Data w ↦ rw (c.note.ensures.0, w.in-Data.is, w.self-is) (ap (over c.args.at c.args.bytes.now) old.in_data ∙ sym w.put.ensures.content)
      | in-Journal w ↦ rw (c.note.ensures.0, w.in-Journal.is, w.self-is) old.in_data
    ]

pub invariant_of-self-2-clause-sound : goal.invariant_of-self-2-clause-sound
invariant_of-self-2-clause-sound c =
    let old = c.args.self.now in
    let state = old.notes.story.now in
    elim c.match-which.branch [
      | in-Data w ↦
          let within : c.args.at ≤ length state.data_file.seen = subst (λ which. c.args.at ≤ length (seen_of which old.notes.story)) w.in-Data.is c.requires in
          rw (c.note.ensures.0, w.in-Data.is, w.self-is) (record {
            data_left = write_sound c.args.at c.args.bytes.now state.data_file within (λ i. omega (arith, c.type_inv.bytes i)) old.sound.data_left;
            journal_left = old.sound.journal_left;
          })
      | in-Journal w ↦
          let within : c.args.at ≤ length state.journal_file.seen = subst (λ which. c.args.at ≤ length (seen_of which old.notes.story)) w.in-Journal.is c.requires in
          rw (c.note.ensures.0, w.in-Journal.is, w.self-is) (record {
            data_left = old.sound.data_left;
            journal_left = write_sound c.args.at c.args.bytes.now state.journal_file within (λ i. omega (arith, c.type_inv.bytes i)) old.sound.journal_left;
          })
    ]
