use Rattle.fit_places.specs.Changes.{empty_file}
use Rattle.fit_places.proofs.MemoryFolders.{created_changed}
use Rattle.fit_places.proofs.memory_folder.MemoryFolder.create.Goals as goal

pub returns-clause-ok : goal.returns-clause-ok
returns-clause-ok c = λ folder s. created_changed _ _ _ _ _ _ c.in_ok-number.number (c.in_ok-number.ensures.ok folder (empty_file c.args.mode) c.empty.ensures s)
