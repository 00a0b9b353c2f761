use Rattle.std.proofs.Common.{◌≤◌, length, take, subst, ap, ◌∙◌, arith}
use Rattle.std.proofs.lemmas.List.{length-take}
use Rattle.fit_disk.specs.Story.{seen_of}
use Rattle.fit_disk.proofs.Putting.{cut_front}
use Rattle.fit_disk.proofs.buffers.BuffersDisk.cut.Goals as goal
use Rattle.fit_disk.proofs.buffers.BuffersDisk.cut.Goals.{in-Data, in-Journal}

pub invariant_of-self-2-clause-in_data : goal.invariant_of-self-2-clause-in_data
invariant_of-self-2-clause-in_data c =
    let old = c.args.self.now in
    elim c.match-which.branch [
      | in-Data w ↦
          let within : c.args.len ≤ length old.notes.story.now.data_file.seen = subst (λ which. c.args.len ≤ length (seen_of which old.notes.story)) w.in-Data.is c.requires in
          let below : c.args.len ≤ old.data_len = omega (arith, within, ap length old.in_data, length-take old.data_len old.data_bytes.now) in
          rw (w.self-is, c.note.ensures.0, w.in-Data.is) (ap (take c.args.len) old.in_data ∙ cut_front c.args.len old.data_len old.data_bytes.now below old.data_fits)
      | in-Journal w ↦ rw (w.self-is, c.note.ensures.0, w.in-Journal.is) old.in_data
    ]

pub invariant_of-self-2-clause-in_journal : goal.invariant_of-self-2-clause-in_journal
invariant_of-self-2-clause-in_journal c =
    let old = c.args.self.now in
    elim c.match-which.branch [
      | in-Data w ↦ rw (w.self-is, c.note.ensures.0, w.in-Data.is) old.in_journal
      | in-Journal w ↦
          let within : c.args.len ≤ length old.notes.story.now.journal_file.seen = subst (λ which. c.args.len ≤ length (seen_of which old.notes.story)) w.in-Journal.is c.requires in
          let below : c.args.len ≤ old.journal_len = omega (arith, within, ap length old.in_journal, length-take old.journal_len old.journal_bytes.now) in
          rw (w.self-is, c.note.ensures.0, w.in-Journal.is) (ap (take c.args.len) old.in_journal ∙ cut_front c.args.len old.journal_len old.journal_bytes.now below old.journal_fits)
    ]
