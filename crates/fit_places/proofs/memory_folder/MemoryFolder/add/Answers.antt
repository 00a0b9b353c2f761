use Rattle.std.proofs.Common.{vec_len, arith, ◌≤◌, ◌<◌}
use Rattle.fit_places.proofs.MemoryFolders.{grows, names_below_more, earlier_below_more}
use Rattle.fit_places.proofs.memory_folder.MemoryFolder.add.Goals as goal

pub invariant_of-self-clause-names_below : goal.invariant_of-self-clause-names_below
invariant_of-self-clause-names_below c = names_below_more _ _ c.args.self.now.changes.items (grows _ _ _ c.push.ensures.len) c.args.self.now.names_below

pub invariant_of-self-clause-earlier_below : goal.invariant_of-self-clause-earlier_below
invariant_of-self-clause-earlier_below c = earlier_below_more _ _ c.args.self.now.changes.items (grows _ _ _ c.push.ensures.len) c.args.self.now.earlier_below

pub invariant_of-self-clause-made : goal.invariant_of-self-clause-made
invariant_of-self-clause-made c = λ one is. let low : one < vec_len c.args.self.now.things = c.args.self.now.made one is in let more : vec_len c.args.self.now.things ≤ vec_len c.push.new.self = grows _ _ _ c.push.ensures.len in omega (arith, low, more)
