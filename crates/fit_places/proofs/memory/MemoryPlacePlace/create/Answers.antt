use Rattle.std.proofs.Common.{sym, subst}
use Rattle.fit_places.specs.MemoryFolder.{StandsFor}
use Rattle.fit_places.specs.Noted.{story_by}
use Rattle.fit_places.specs.Changes.{after_creation}
use Rattle.fit_places.proofs.memory.MemoryPlacePlace.create.Goals as goal

pub invariant_of-self : goal.invariant_of-self
invariant_of-self c =
    let now = (story_by c.begins.new.self.notes.notes).now in
    let done : StandsFor c.create.new.self (after_creation c.as_bytes.result.now c.in-Ok.number c.args.mode now) =
    subst (λ bytes. StandsFor c.create.new.self (after_creation bytes c.in-Ok.number c.args.mode now)) (sym c.as_bytes.ensures.value) (c.in-Ok.ensures.ok now c.begins.new.self.stands) in
    record { stands = subst (λ notes. StandsFor c.create.new.self (story_by notes).now) (sym c.note.ensures) done }

pub invariant_of-self-in-Err : goal.invariant_of-self-in-Err
invariant_of-self-in-Err c = record {
  stands = subst (λ notes. StandsFor c.create.new.self (story_by notes).now) (sym c.note-in-Err.ensures) (c.in-Err.ensures.err (story_by c.begins.new.self.notes.notes).now c.begins.new.self.stands);
}
