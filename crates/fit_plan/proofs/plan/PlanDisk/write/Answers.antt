use Rattle.std.proofs.Common.{◌≤◌, ◌∙◌, length, subst, ap, arith}
use Rattle.fit_disk.specs.Story.{seen_of}
use Rattle.fit_disk.proofs.Leaving.{length-over}
use Rattle.fit_disk.proofs.Sound.{write_sound}
use Rattle.std.specs.Prelude.{is_err}
use Rattle.fit_plan.specs.Plan.{room_by}
use Rattle.fit_plan.proofs.Inside.{begins_inside}
use Rattle.fit_plan.proofs.Room.{refused}
use Rattle.fit_plan.proofs.plan.PlanDisk.write.Goals as goal
use Rattle.fit_plan.proofs.plan.PlanDisk.write.Goals.{in-Data, in-Journal}

pub invariant_of-self-2-clause-sound : goal.invariant_of-self-2-clause-sound
invariant_of-self-2-clause-sound c =
    let old = c.args.self.now in
    let state = old.notes.story.now in
    elim c.match-which.branch [
      | in-Data w ↦
          let within : c.args.at ≤ length state.data_file.seen = subst (λ which. c.args.at ≤ length (seen_of which old.notes.story)) w.in-Data.is c.requires in
          rw (c.note.ensures.0, w.in-Data.is) (record {
            data_left = write_sound c.args.at c.args.bytes.now state.data_file within (λ i. omega (arith, c.type_inv.bytes i)) old.sound.data_left;
            journal_left = old.sound.journal_left;
          })
      | in-Journal w ↦
          let within : c.args.at ≤ length state.journal_file.seen = subst (λ which. c.args.at ≤ length (seen_of which old.notes.story)) w.in-Journal.is c.requires in
          rw (c.note.ensures.0, w.in-Journal.is) (record {
            data_left = old.sound.data_left;
            journal_left = write_sound c.args.at c.args.bytes.now state.journal_file within (λ i. omega (arith, c.type_inv.bytes i)) old.sound.journal_left;
          })
    ]

pub invariant_of-self-2-clause-sized : goal.invariant_of-self-2-clause-sized
invariant_of-self-2-clause-sized c =
    let old = c.args.self.now in
    let state = old.notes.story.now in
    elim c.match-which.branch [
      | in-Data w ↦
          let within : c.args.at ≤ length state.data_file.seen = subst (λ which. c.args.at ≤ length (seen_of which old.notes.story)) w.in-Data.is c.requires in
          rw (c.note.ensures.0, w.in-Data.is, w.self-is) (omega (arith, c.in-Some.ensures, old.sized, length-over c.args.at c.args.bytes.now state.data_file.seen within))
      | in-Journal w ↦ rw (c.note.ensures.0, w.in-Journal.is, w.self-is) old.sized
    ]

pub returns-in_default-add-clause-room : goal.returns-in_default-add-clause-room
returns-in_default-add-clause-room c = refused (length c.args.bytes.now) _ c.args.self.now c.failed-in_default-add.new.self (c.failed-in_default-add.ensures.room ∙ ap room_by c.in_default-add.ensures.err)
    (λ few fits. c.add.ensures.fits few fits (ap is_err c.in_default-add.is))

pub invariant_of-self-2-clause-inside : goal.invariant_of-self-2-clause-inside
invariant_of-self-2-clause-inside c =
    let old = c.args.self.now in
    rw (c.note.ensures.1) (c.in-Ok.ensures.inside old.notes.since old.inside (begins_inside old c.args.which c.args.at c.requires))
