use Rattle.std.proofs.Common.{subst, None}
use Rattle.fit_places.specs.Changes.{with_name}
use Rattle.fit_places.specs.MemoryFolder.{StandsFor}
use Rattle.fit_places.proofs.memory_folder.MemoryFolder.remove.Goals as goal

pub returns-clause-ok : goal.returns-clause-ok
returns-clause-ok c = λ folder s.
    subst (λ name. StandsFor c.change_name.new.self (with_name name None folder)) c.in_ok-name.ensures.ok
    (c.change_name.ensures.stands folder (c.make_room.ensures.same folder s))
