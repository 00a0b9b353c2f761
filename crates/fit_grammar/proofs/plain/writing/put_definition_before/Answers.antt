use Rattle.std.proofs.Common.{rules, sym, ap}
use Rattle.fit_grammar.specs.Format.Encoding.{encoded_items}
use Rattle.fit_grammar.specs.Calls.PlainForm.{is_timed}
use Rattle.fit_grammar.proofs.Encoder.Checked.{checked_same}
use Rattle.fit_grammar.proofs.PlainForm.Written.{none_before, checked_none}
use Rattle.fit_grammar.proofs.plain.writing.put_definition_before.Goals as goal

pub returns-then-timed-message-clause-text : goal.returns-then-timed-message-clause-text
returns-then-timed-message-clause-text g c =
    let m = c.args.message.now in
    checked_same (checked_none _ c.args.checksum.now tt)
    (ap encoded_items (sym (none_before (is_timed c.args.timed.now m.local) c.args.needs m.definition (search rules))))
