use Rattle.std.proofs.Common.{◌∙◌, arith, true}
use Rattle.fit_places.proofs.MemoryFolders.{changed_some, changed_none}
use Rattle.fit_places.proofs.memory_folder.MemoryFolder.sync_created.Goals as goal

pub returns-in-Some : goal.returns-in-Some
returns-in-Some c = λ folder s. changed_some _ _ _ _ _ folder folder.created c.in-Some.number (λ file. record file { is_synced = true }) c.index_mut.result.now c.sync.new.self (s.last ∙ c.in-Some.is) (omega (arith, c.args.self.now.made _ c.in-Some.is, c.args.self.now.things.ok.0)) c.index_mut.ensures.value c.sync.ensures s

pub returns-in_default : goal.returns-in_default
returns-in_default c = λ folder s. changed_none _ _ _ _ _ folder folder.created _ (s.last ∙ c.in_default.is) s
