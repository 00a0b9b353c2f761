use Rattle.std.proofs.Common.{arith}
use Rattle.fit_grammar.specs.Calls.PlainForm.{plain_items}
use Rattle.fit_c.proofs.Written.{fits, too_large, records_counted}
use Rattle.fit_c.proofs.plain.plain_size.Goals as goal

pub returns-in-Ok-clause-size : goal.returns-in-Ok-clause-size
returns-in-Ok-clause-size c =
    let room = c.write_records-done.new.room in
    records_counted (plain_items c.args.file.now.items) room.tape.bytes room.len room.counted c.in-Ok.ensures.records c.if-room.true

pub returns-in-Ok-clause-fits : goal.returns-in-Ok-clause-fits
returns-in-Ok-clause-fits c = λ _.
    let room = c.write_records-done.new.room in
    let items = plain_items c.args.file.now.items in
    let size = records_counted items room.tape.bytes room.len room.counted c.in-Ok.ensures.records c.if-room.true in
    fits items c.in-Ok.ensures.fields (omega (arith, size, c.if-room.true))

pub returns-in-Ok-2-clause-too_long : goal.returns-in-Ok-2-clause-too_long
returns-in-Ok-2-clause-too_long c = λ _.
    let room = c.write_records-done.new.room in
    too_large (plain_items c.args.file.now.items) room.tape.bytes room.len room.counted c.in-Ok-2.ensures.records c.in-Ok-2.ensures.fields
    (omega (arith, c.if-room.false))
