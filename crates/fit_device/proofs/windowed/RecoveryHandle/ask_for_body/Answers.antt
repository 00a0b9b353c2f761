use Rattle.std.proofs.Common.{refl, sym, ap, length, arith}
use Rattle.fit_disk.specs.Story.{Story, seen_of}
use Rattle.fit_disk.specs.declared.disk.Which.TheVariants.{Data}
use Rattle.fit_recorder.proofs.Windowed.{reads_on_in}
use Rattle.fit_recorder.specs.Private.BodyRead.{Reading}
use Rattle.fit_device.proofs.windowed.RecoveryHandle.ask_for_body.Goals as goal

pub ask-requires-clause-placed : goal.ask-requires-clause-placed
ask-requires-clause-placed c =
    let reading = c.freeze.ensures.reading in
    let at = ap (λ (reading : Reading). reading.at) reading in
    let len = ap (λ (reading : Reading). reading.len) reading in
    record {
      finds = λ first. absurd (omega (arith, first));
      reads = λ _. (refl, omega (arith, at, c.place.ensures), omega (arith, at, len, c.min-count.ensures, c.left.ensures));
    }

pub ask-requires-clause-reads : goal.ask-requires-clause-reads
ask-requires-clause-reads c =
    let reading = c.freeze.ensures in (
      λ first. absurd (omega (arith, first)),
      λ _. reads_on_in c.args.recovery.now c.freeze.new.numbers _ (sym reading.reading) (sym reading.replay) (sym reading.journal) reading.possible c.requires.reads.0 c.requires.reads.1,
    )

pub returns-clause-asks : goal.returns-clause-asks
returns-clause-asks c =
    let long = c.requires.reads.1.committed.long in
    let within = c.args.recovery.now.reader.within in
    let asked = c.ask.ensures in
    let size = ap (λ (story : Story). length (seen_of Data story)) asked.story in
    record {
      asks = asked.asks;
      reads = λ first. omega (arith, asked.window.3, first);
      of_data = asked.window.0;
      few = omega (arith, asked.window.2, c.min-count.ensures);
      inside = omega (arith, long, within, asked.window.1, asked.window.2, c.min-count.ensures, c.left.ensures, c.place.ensures, size);
    }
