use Rattle.std.proofs.Common.{◌≡◌, ◌≢◌, ◌<◌, ◌∷◌, [], length, sym, ap, ◌∙◌, arith, eqb-true}
use Rattle.std.proofs.lemmas.Bool.{eqb-false}
use Rattle.std.proofs.lemmas.List.{length-append, length-take}
use Rattle.fit_files.proofs.Exports.Fields.{held_room, held_full}
use Rattle.fit_files.proofs.export.held.Held.add.Goals as goal

pub returns-then-is_full : goal.returns-then-is_full
returns-then-is_full c numbers few are =
    let items = c.args.self.now.fields.items in
    let full : length items ≡ 128 = eqb-true (length items) 128 (sym c.is_full.ensures.value ∙ c.if-is_full.true) in
    record {
      fields = held_full numbers items c.args.number are.fields full;
      left_out = omega (arith, c.saturating_add-self.ensures, are.left_out, few, full, ap length are.fields, length-take 128 numbers, length-append numbers (c.args.number ∷ []));
    }

pub returns-else-is_full : goal.returns-else-is_full
returns-else-is_full c numbers few are =
    let items = c.args.self.now.fields.items in
    let apart : length items ≢ 128 = eqb-false (length items) 128 (sym c.is_full.ensures.value ∙ c.if-is_full.false) in
    let room : length items < 128 = omega (arith, apart, c.is_full.ensures.fits) in
    record {
      fields = c.push.ensures.items ∙ held_room numbers items c.args.number are.fields room;
      left_out = omega (arith, are.left_out, room, ap length are.fields, length-take 128 numbers, length-append numbers (c.args.number ∷ []));
    }
