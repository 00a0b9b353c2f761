use Rattle.std.proofs.Common.{sym, subst, ◌∷◌}
use Rattle.fit_places.specs.MemoryFolder.{StandsFor}
use Rattle.fit_places.specs.declared.folder_note.FolderNote.TheVariants.{Put}
use Rattle.fit_places.specs.Folder.{Thing}
use Rattle.fit_places.specs.Noted.{story_by, put_there}
use Rattle.fit_places.proofs.memory.MemoryPlace.put.Goals as goal

pub invariant_of-self : goal.invariant_of-self
invariant_of-self c =
    let now = (story_by c.args.self.now.notes.notes).now in
    let thing : Thing = record { kind = c.args.kind; bytes = c.args.bytes.now; mode = c.args.mode } in
    let done : StandsFor c.put.new.self (put_there c.as_bytes.result.now c.in-Ok.number thing c.args.is_locked now) =
    subst (λ name. StandsFor c.put.new.self (put_there name c.in-Ok.number thing c.args.is_locked now)) (sym c.as_bytes.ensures.value) (c.in-Ok.ensures.ok now c.args.self.now.stands) in
    record { stands = subst (λ notes. StandsFor c.put.new.self (story_by notes).now) (sym c.note-in-Ok.ensures) (subst (λ notes. StandsFor c.put.new.self (story_by ((Put c.in-Ok.number c.args.kind c.args.mode c.args.is_locked, c.args.bytes.now) ∷ notes)).now) (sym c.note.ensures) done) }

pub invariant_of-self-in-Err : goal.invariant_of-self-in-Err
invariant_of-self-in-Err c = record { stands = c.in-Err.ensures.err (story_by c.args.self.now.notes.notes).now c.args.self.now.stands }
