use Rattle.std.proofs.Common.{rules, ◌≡◌, Bool, [], ◌∷◌, ap, sym, false, if◌then◌else◌}
use Rattle.fit_grammar.specs.Format.Encoding.{encoded_items}
use Rattle.fit_grammar.specs.Calls.LentItem.{data_under, message_here}
use Rattle.fit_grammar.proofs.Encoder.Checked.{checked_same}
use Rattle.fit_grammar.proofs.PlainForm.Written.{checked_none}
use Rattle.std.proofs.Common.{None}
use Rattle.fit_joining.specs.Part.{stays}
use Rattle.fit_joining.specs.JoinedItems.{data_changed}
use Rattle.fit_joining.proofs.join.put_data.Goals as goal
use Rattle.fit_joining.proofs.join.put_data.Goals.{in_default-via-in-Some+else-keeps, in_default-via-in_default}

pub returns-in_default-clause-text : goal.returns-in_default-clause-text
returns-in_default-clause-text g c =
    let m = data_under c.args.message.definition c.args.message.local c.args.message.offset None c.args.message.content.now in
    let gone : stays c.args.tally (message_here m) ≡ false =
    elim c.in_default.branch [
      | in_default-via-in-Some+else-keeps w ↦ search rules
      | in_default-via-in_default w ↦ search rules
    ] in
    checked_same (checked_none _ c.args.checksum.now c.args.tally)
    (ap (λ (b : Bool). encoded_items (if b then data_changed c.args.given.now c.args.tally m ∷ [] else [])) (sym gone))
