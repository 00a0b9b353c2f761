use Rattle.std.proofs.Common.{◌≤◌, length, refl, sym, ap, arith}
use Rattle.fit_disk.specs.Content.{over}
use Rattle.fit_disk.proofs.Leaving.{left_more}
use Rattle.fit_disk.proofs.Sound.{write_sound}
use Rattle.fit_disk.proofs.MemoryFiles.{half_begun}
use Rattle.fit_disk.proofs.memory_file.MemoryFile.begin_write.Goals as goal

pub returns-then-is_done-clause-begun : goal.returns-then-is_done-clause-begun
returns-then-is_done-clause-begun c = λ file is.
    let within : c.args.at ≤ length file.seen = omega (arith, c.requires.within, ap length is.seen, c.args.self.now.seen.ok.0) in
    rw c.if-is_done.true
    (half_begun c.args.self.now _ file c.args.at (length c.args.bytes.now) (over c.args.at c.args.bytes.now file.seen) is
    (write_sound c.args.at c.args.bytes.now file within (λ i. omega (arith, c.type_inv.bytes i)) is.sound)
    (rw is.seen (sym c.put.ensures.items)) refl (omega arith) c.add_range.ensures)

pub returns-else-is_done-clause-begun : goal.returns-else-is_done-clause-begun
returns-else-is_done-clause-begun c = λ file is.
    rw c.if-is_done.false
    (half_begun c.args.self.now _ file c.args.at (length c.args.bytes.now) file.seen is
    (left_more c.args.at (length c.args.bytes.now) file.seen file file.seen is.sound)
    is.seen refl (omega arith) c.add_range.ensures)
