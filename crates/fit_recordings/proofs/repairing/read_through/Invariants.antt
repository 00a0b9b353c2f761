use Rattle.std.proofs.Common.{◌≡◌, ◌*◌, ◌^◌, ◌<◌, ◌≤◌, IsTrue, length, take}
use Rattle.fit_base.specs.Checksum.{crc}
use Rattle.fit_disk.specs.Story.{seen_of}
use Rattle.fit_recordings.proofs.repairing.read_through.Given as goal

abbrev pub invariant-loop : goal.invariant-loop
invariant-loop g l =
    let seen = seen_of l.fn.which (g.D.Disk.story l.fn.disk) in
    record {
      long : length l.buffer ≡ 4096;
      same : IsTrue g.D.Disk.honest → g.D.Disk.story l.disk ≡ g.D.Disk.story l.fn.disk;
      failed : (g.D.Disk.log l.disk).counts.failed ≡ (g.D.Disk.log l.fn.disk).counts.failed;
      place : IsTrue g.D.Disk.honest → length seen < 2 ^ 64 → l.at ≡ 4096 * l.counter;
      within : IsTrue g.D.Disk.honest → length seen < 2 ^ 64 → l.at ≤ length seen;
      sum : IsTrue g.D.Disk.honest → length seen < 2 ^ 64 → l.checksum ≡ crc (take l.at seen);
    }
