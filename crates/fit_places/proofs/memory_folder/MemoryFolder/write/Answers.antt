use Rattle.std.proofs.Common.{arith, ◌<◌, length}
use Rattle.fit_places.proofs.MemoryFolders.{bytes_changed, bytes_before, bytes_after}
use Rattle.fit_places.proofs.memory_folder.MemoryFolder.write.Goals as goal

pub returns-in-Some-clause-stands : goal.returns-in-Some-clause-stands
returns-in-Some-clause-stands g c = λ folder s.
    let low : c.in-Some.number < length c.args.self.now.things.items = omega (arith, c.args.self.now.made _ c.in-Some.is, c.args.self.now.things.ok.0) in
    bytes_changed _ _ _ _ _ folder c.in-Some.number c.index_mut.result.now c.write.new.self c.in-Some.is low c.index_mut.ensures.value c.write.ensures.thing s

pub returns-in-Some-clause-ok : goal.returns-in-Some-clause-ok
returns-in-Some-clause-ok g c =
    let low : c.in-Some.number < length c.args.self.now.things.items = omega (arith, c.args.self.now.made _ c.in-Some.is, c.args.self.now.things.ok.0) in
    rw (bytes_after c.args.self.now.things.items c.args.self.now.created c.in-Some.number c.in-Some.is low c.write.new.self, bytes_before c.args.self.now.things.items c.args.self.now.created c.in-Some.number c.in-Some.is low c.index_mut.result.now c.index_mut.ensures.value) c.write.ensures.ok
