use Rattle.std.proofs.Common.{length, refl, ap, ◌∙◌}
use Rattle.fit_grammar.specs.declared.file.frame.Frame.{Frame}
use Rattle.fit_shifting.specs.Private.Plain.{plain_of_moved}
use Rattle.fit_shifting.proofs.MovedPlain.{is_shifted}
use Rattle.fit_shifting.proofs.MovedBytes.{file_back, records_lent}
use Rattle.fit_shifting.proofs.plain.shift_plain.Goals as goal

pub returns-clause-shifted : goal.returns-clause-shifted
returns-clause-shifted c =
    let v = c.args.file.now in
    let can = c.frame-front.ensures.possible in
    let header = ap (λ (f : Frame). f.header_size) c.frame-front.ensures.frame in (
      plain_of_moved c.args.shift v,
      is_shifted c.args.shift v can c.requires.movable,
      file_back c.args.shift v c.args.plain.now c.move_records.new.records _ c.to_le_bytes-checksum.result c.copy_from_slice.new.self
          _ _ _ _ c.of.result can.is_frame c.requires.plain header refl refl c.move_records.ensures.moved
          (c.move_records.ensures.long ∙ ap length (records_lent v c.args.plain.now _ _ can.is_frame c.requires.plain header refl)) refl refl
          c.to_le_bytes-checksum.ensures c.of.type_inv c.of.ensures c.copy_from_slice.ensures.after,
    )
