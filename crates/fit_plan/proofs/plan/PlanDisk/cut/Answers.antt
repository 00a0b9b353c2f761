use Rattle.std.proofs.Common.{◌∙◌, ap}
use Rattle.std.specs.Prelude.{is_err}
use Rattle.fit_plan.specs.Plan.{room_by}
use Rattle.fit_plan.proofs.Inside.{begins_inside}
use Rattle.fit_plan.proofs.Room.{refused}
use Rattle.fit_plan.proofs.plan.PlanDisk.cut.Goals as goal

pub returns-in_default-clause-room : goal.returns-in_default-clause-room
returns-in_default-clause-room c = refused 0 _ c.args.self.now c.failed.new.self (c.failed.ensures.room ∙ ap room_by c.in_default.ensures.err)
    (λ few fits. c.add.ensures.fits few fits (ap is_err c.in_default.is))

pub invariant_of-self-2-clause-inside : goal.invariant_of-self-2-clause-inside
invariant_of-self-2-clause-inside c =
    let old = c.args.self.now in
    rw (c.note.ensures.1) (c.in-Ok.ensures.inside old.notes.since old.inside (begins_inside old c.args.which c.args.len c.requires))
