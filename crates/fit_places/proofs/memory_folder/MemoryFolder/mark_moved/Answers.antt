use Rattle.std.proofs.Common.{arith, ◌&&◌}
use Rattle.fit_places.proofs.MemoryFolders.{changed_some}
use Rattle.fit_places.proofs.memory_folder.MemoryFolder.mark_moved.Goals as goal

pub returns-in-Some : goal.returns-in-Some
returns-in-Some c = λ folder s. changed_some _ _ _ _ _ folder c.args.number c.in-Some.number (λ file. record file { is_synced = file.is_synced && folder.keeps_moved }) c.index_mut.result.now c.moved.new.self c.in-Some.is (omega (arith, c.requires _ c.in-Some.is, c.args.self.now.things.ok.0)) c.index_mut.ensures.value (rw s.keeps c.moved.ensures) s
