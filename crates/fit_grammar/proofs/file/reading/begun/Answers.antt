use Rattle.std.proofs.Common.{ℕ, ◌+◌, length, refl, ap, ◌∙◌}
use Rattle.fit_base.specs.Checksum.{crc_from}
use Rattle.fit_grammar.proofs.Pieces.Begun.{begun_reads}
use Rattle.fit_grammar.proofs.file.reading.begun.Goals as goal

pub returns : goal.returns
returns c =
    let header = c.args.header.now in
    let checked = c.add.ensures ∙ ap (λ (n : ℕ). crc_from n header) c.new-checksum.ensures in
    begun_reads header c.args.found (record {
      file = c.new.result;
      places = c.new-2.result;
      at = length header;
      end = length header + c.args.found.data_size;
      checksum = c.add.new.self;
      carry = c.new-3.result;
      closing = c.new-4.result;
    }) c.requires.begins c.requires.whole c.requires.fits c.new.ensures.frame c.new.ensures.items c.new-2.ensures refl refl checked
    c.new-3.ensures.items c.new-4.ensures
