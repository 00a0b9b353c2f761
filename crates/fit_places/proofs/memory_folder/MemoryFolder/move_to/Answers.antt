use Rattle.std.proofs.Common.{sym, subst, ◌∙◌, ◌&&◌, Option, ℕ, List, None, string_bytes}
use Rattle.fit_places.specs.Changes.{with_name, with_change}
use Rattle.fit_places.specs.MemoryFolder.{StandsFor}
use Rattle.fit_places.specs.Folder.{Folder}
use Rattle.fit_places.proofs.memory_folder.MemoryFolder.move_to.Goals as goal

abbrev moved_as : (from to : List ℕ) (number : Option ℕ) (folder : Folder) → Folder
moved_as from to number folder = with_change number (λ file. record file { is_synced = file.is_synced && folder.keeps_moved }) (with_name to number (with_name from None folder))

pub returns-clause-ok : goal.returns-clause-ok
returns-clause-ok c = λ folder s.
    let number = c.number_of-number.result in
    let from = string_bytes c.in_ok-from.from in
    let gone = with_name from None folder in
    subst (λ at. StandsFor c.mark_moved.new.self (moved_as c.args.from.now c.args.to.now at folder)) (c.number_of-number.ensures.value ∙ sym (s.names c.args.from.now))
    (subst (λ name. StandsFor c.mark_moved.new.self (moved_as name c.args.to.now number folder)) c.in_ok-from.ensures.ok
    (subst (λ name. StandsFor c.mark_moved.new.self (moved_as from name number folder)) c.in_ok-to.ensures.ok
    (c.mark_moved.ensures _ (c.change_name-2.ensures.stands gone (c.change_name.ensures.stands folder (c.make_room.ensures.same folder s))))))
