use Rattle.fit_grammar.specs.Calls.PlainForm.{plain_items}
use Rattle.fit_c.proofs.Written.{not_too_many}
use Rattle.fit_c.proofs.plain.write_in.Goals as goal

pub unreachable-requires : goal.unreachable-requires
unreachable-requires c = not_too_many (plain_items c.args.file.now.items) c.requires.fits
    (rw c.in-Err-TooLong.field-0-is at c.in-Err-TooLong.ensures.fields)
