use Rattle.std.proofs.Common.{◌∷◌, arith}
use Rattle.fit_joining.specs.JoinedItems.{joined_items}
use Rattle.fit_c.proofs.Written.{over, records_counted}
use Rattle.fit_c.proofs.joining.joined_size.Goals as goal

pub returns-then-room-clause-size : goal.returns-then-room-clause-size
returns-then-room-clause-size c =
    let room = c.write_records.new.room in
    records_counted (joined_items (c.args.first.now ∷ c.args.others.now)) room.tape.bytes room.len room.counted c.write_records.ensures.records
    c.if-room.true

pub returns-else-room-clause-too_long : goal.returns-else-room-clause-too_long
returns-else-room-clause-too_long c = λ _.
    let room = c.write_records.new.room in
    over (joined_items (c.args.first.now ∷ c.args.others.now)) room.tape.bytes room.len room.counted c.write_records.ensures.records
    (omega (arith, c.if-room.false))
