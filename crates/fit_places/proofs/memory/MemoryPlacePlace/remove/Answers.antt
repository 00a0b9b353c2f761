use Rattle.std.proofs.Common.{sym, subst, None}
use Rattle.fit_places.specs.MemoryFolder.{StandsFor}
use Rattle.fit_places.specs.Noted.{story_by}
use Rattle.fit_places.specs.Changes.{with_name}
use Rattle.fit_places.proofs.memory.MemoryPlacePlace.remove.Goals as goal

pub invariant_of-self : goal.invariant_of-self
invariant_of-self c =
    let now = (story_by c.begins.new.self.notes.notes).now in
    let done : StandsFor c.remove.new.self (with_name c.as_bytes.result.now None now) =
    subst (λ bytes. StandsFor c.remove.new.self (with_name bytes None now)) (sym c.as_bytes.ensures.value) (c.in-Ok.ensures.ok now c.begins.new.self.stands) in
    record { stands = subst (λ notes. StandsFor c.remove.new.self (story_by notes).now) (sym c.note.ensures) done }

pub invariant_of-self-in-Err : goal.invariant_of-self-in-Err
invariant_of-self-in-Err c = record {
  stands = subst (λ notes. StandsFor c.remove.new.self (story_by notes).now) (sym c.note-in-Err.ensures) (c.in-Err.ensures.err (story_by c.begins.new.self.notes.notes).now c.begins.new.self.stands);
}
