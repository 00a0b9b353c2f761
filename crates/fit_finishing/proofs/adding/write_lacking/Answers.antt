use Rattle.std.proofs.Common.{arith}
use Rattle.fit_finishing.proofs.Added.{next_room}
use Rattle.fit_finishing.proofs.adding.write_lacking.Goals as goal

pub write_next-used-requires-clause-room : goal.write_next-used-requires-clause-room
write_next-used-requires-clause-room c =
    omega (arith, c.requires.room, next_room c.args.details c.args.speech.now _ c.loop-message.message-index _ c.messages-message-items.ensures c.loop-message-test.true c.message-item.is)
