use Rattle.fit_places.proofs.memory_folder.MemoryFolder.put.Goals as goal

pub returns-clause-ok : goal.returns-clause-ok
returns-clause-ok c = λ folder s. c.sync_names.ensures _ (c.in_ok-number.ensures.ok folder _ c.in_ok-thing.ensures s)
