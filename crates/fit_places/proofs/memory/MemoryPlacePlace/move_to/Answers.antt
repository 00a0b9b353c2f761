use Rattle.std.proofs.Common.{sym, subst}
use Rattle.fit_places.specs.MemoryFolder.{StandsFor}
use Rattle.fit_places.specs.Noted.{story_by}
use Rattle.fit_places.proofs.memory.MemoryPlacePlace.move_to.Goals as goal

pub invariant_of-self-in-Err : goal.invariant_of-self-in-Err
invariant_of-self-in-Err c = record {
  stands = subst (λ notes. StandsFor c.move_to.new.self (story_by notes).now) (sym c.note-in-Err.ensures) (c.in-Err.ensures.err (story_by c.begins.new.self.notes.notes).now c.begins.new.self.stands);
}
