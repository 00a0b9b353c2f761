use Rattle.std.proofs.Common.{sym, subst}
use Rattle.fit_places.specs.MemoryFolder.{StandsFor}
use Rattle.fit_places.specs.Noted.{story_by}
use Rattle.fit_places.proofs.memory.MemoryPlacePlace.sync_folder.Goals as goal

pub invariant_of-self : goal.invariant_of-self
invariant_of-self c =
    let now = (story_by c.begins.new.self.notes.notes).now in
    record { stands = subst (λ notes. StandsFor c.sync_names.new.self (story_by notes).now) (sym c.note.ensures) (c.sync_names.ensures now c.begins.new.self.stands) }
