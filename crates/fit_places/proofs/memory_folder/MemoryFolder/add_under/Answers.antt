use Rattle.std.proofs.Common.{sym, subst, Some, vec_len, string_bytes}
use Rattle.fit_places.specs.Calls.{IsNewNumber}
use Rattle.fit_places.specs.Changes.{with_name, with_thing}
use Rattle.fit_places.specs.Folder.{Folder}
use Rattle.fit_places.specs.MemoryFolder.{StandsFor}
use Rattle.fit_places.proofs.MemoryFolders.{next_is_new, on_err}
use Rattle.fit_places.proofs.memory_folder.MemoryFolder.add_under.Goals as goal

pub returns-in_err-number-clause-err : goal.returns-in_err-number-clause-err
returns-in_err-number-clause-err c = on_err c.from_residual-in_err-number.result ((folder : Folder) → StandsFor c.args.self.now folder → StandsFor c.add.new.self folder)
    (λ folder s. c.in_err-number.ensures.err folder (c.make_room.ensures.same folder s))

pub returns-clause-is_new : goal.returns-clause-is_new
returns-clause-is_new c = λ folder s.
    let room = c.make_room.new.self in
    subst (λ number. IsNewNumber number folder) (sym c.in_ok-number.ensures.number)
    (next_is_new room.changes.items room.recent room.things.items room.created room.keeps_moved folder (vec_len room.things) room.names_below room.earlier_below (c.make_room.ensures.same folder s))

pub returns-clause-ok : goal.returns-clause-ok
returns-clause-ok c = λ folder stood is s.
    let number = c.in_ok-number.number in
    let start = vec_len c.make_room.new.self.things in
    let added = c.in_ok-number.ensures.ok.1 folder stood is (c.make_room.ensures.same folder s) in
    subst (λ name. StandsFor c.change_name.new.self (with_thing number stood (with_name name (Some number) folder))) c.in_ok-name.ensures.ok
    (subst (λ other. StandsFor c.change_name.new.self (with_thing other stood (with_name (string_bytes c.in_ok-name.name) (Some number) folder))) (sym c.in_ok-number.ensures.number)
    (c.change_name.ensures.stands (with_thing start stood folder) added))
