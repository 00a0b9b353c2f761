use Rattle.std.proofs.Common.{◌≡◌, ℕ, ◌+◌, ◌*◌, ◌^◌, ◌++◌, [], Err, length, length-take, take, refl, arith}
use Rattle.fit_runs.specs.Rides.Listening.{HasEnded}
use Rattle.fit_runs.proofs.Reported.Heard.{broken_finishes, can_more}
use Rattle.fit_runs.proofs.Reported.InTurn.{begins, heard_piece, heard_nothing, input_ended, input_failed, keeps_nothing, piece_broken, piece_done, records_bytes, records_in_turn, too_many}
use Rattle.fit_runs.proofs.recording.record.Given.{Over}
use Rattle.fit_runs.proofs.recording.record.Goals as goal

pub loop-init : goal.loop-init
loop-init g c = record {
  able = c.new-listener.ensures.able;
  recorded = begins g.D.Disk.honest g.D.Disk.story c.args.every (g.D.Disk.story c.args.disk) (g.P.Dialogue.story c.args.dialogue.now)
      (g.P.Dialogue.sides c.args.dialogue.now) c.new-listener.result c.new-listener.ensures.heard;
}

pub loop-preserved : goal.loop-preserved
loop-preserved g c =
    let honest = g.D.Disk.honest in
    let story = g.D.Disk.story in
    let old = story c.args.disk in
    let begun = g.P.Dialogue.story c.args.dialogue.now in
    let from = g.P.Dialogue.sides c.args.dialogue.now in
    let known = c.loop.invariant.recorded in
    let piece = take c.in-Ok.taken c.hear.new.piece in
    let chunk_long : length c.hear.new.piece ≡ 65536 = omega (arith, c.hear.auto.piece) in
    let heard = rw c.in-Ok-outcome.is at
    c.take-next.ensures.heard c.args.every old _ known.turns _
    (heard_piece honest story c.args.every old begun from _ _ _ _ c.loop.counter c.loop.listener known c.hear.ensures.held c.hear.ensures.name piece
    c.in-Ok.ensures.heard c.in-Ok.ensures.bytes.0) in
    record {
      able = can_more honest story (c.loop.counter * 65536 + length piece) ((c.loop.counter + 1) * 65536) c.take-next.result.0
          (c.take-next.ensures.able (c.loop.counter * 65536) c.loop.invariant.able)
          (omega (arith, c.in-Ok.ensures.bound, chunk_long, length-take {A = ℕ}));
      recorded = piece_done honest story c.args.every old begun from _ _ _ _ c.loop.counter c.loop.listener known c.hear.ensures.held c.hear.ensures.name piece
          _ _ heard.0 c.take-next.result.0 c.in-Ok.ensures.heard c.in-Ok.ensures.bytes.0 c.take-next.ensures.tells heard.1;
    }

-- ---- the input ended

input_over : (g : Over) (c : goal.After-finish g) →
    HasEnded g.D.Disk.honest (g.D.Disk.story c.args.disk) (g.D.Disk.story c.finish.result.0) c.args.every
    (g.P.Dialogue.story c.args.dialogue.now) (g.P.Dialogue.story c.finish.new.dialogue) (g.P.Dialogue.sides c.args.dialogue.now)
    (g.P.Dialogue.sides c.finish.new.dialogue) c.finish.result.1
input_over g c =
    let honest = g.D.Disk.honest in
    let story = g.D.Disk.story in
    let old = story c.args.disk in
    let begun = g.P.Dialogue.story c.args.dialogue.now in
    let from = g.P.Dialogue.sides c.args.dialogue.now in
    let known = c.loop.invariant.recorded in
    let zero : c.in-Ok-eq0.field-0 ≡ 0 = omega (arith, c.in-Ok-eq0.field-0-test) in
    let chunk_long : length c.hear.new.piece ≡ 65536 = omega (arith, c.hear.auto.piece) in
    let grown = rw zero at c.in-Ok-eq0.ensures.heard in
    let bytes = rw zero at c.in-Ok-eq0.ensures.bytes in
    let outcome =
    c.finish.ensures.outcome c.args.every old _ known.turns _
    (heard_piece honest story c.args.every old begun from _ _ _ _ c.loop.counter c.loop.listener known c.hear.ensures.held c.hear.ensures.name
    [] grown bytes.0) in
    input_ended honest story c.args.every old begun from _ _ _ _ c.loop.counter c.loop.listener known c.hear.ensures.held c.hear.ensures.name
    _ _ outcome.0 _ c.finish.result.1 grown bytes.0 (bytes.1 refl (omega (arith, chunk_long))) c.finish.ensures.tells c.finish.ensures.fault
    outcome.1

pub returns-in-Ok-eq0-clause-outcome : goal.returns-in-Ok-eq0-clause-outcome
returns-in-Ok-eq0-clause-outcome g c = records_bytes _ _ _ _ _ _ _ _ _ (input_over g c)

pub returns-in-Ok-eq0-clause-in_turn : goal.returns-in-Ok-eq0-clause-in_turn
returns-in-Ok-eq0-clause-in_turn g c = records_in_turn _ _ _ _ _ _ _ _ _ (input_over g c)

-- ---- the output failed

output_failed : (g : Over) (c : goal.After-into_disk g) →
    HasEnded g.D.Disk.honest (g.D.Disk.story c.args.disk) (g.D.Disk.story c.into_disk.result) c.args.every
    (g.P.Dialogue.story c.args.dialogue.now) (g.P.Dialogue.story c.take-next.new.dialogue) (g.P.Dialogue.sides c.args.dialogue.now)
    (g.P.Dialogue.sides c.take-next.new.dialogue) (Err c.in-Err-outcome.fault)
output_failed g c =
    let honest = g.D.Disk.honest in
    let story = g.D.Disk.story in
    let old = story c.args.disk in
    let begun = g.P.Dialogue.story c.args.dialogue.now in
    let from = g.P.Dialogue.sides c.args.dialogue.now in
    let known = c.loop.invariant.recorded in
    let piece = take c.in-Ok.taken c.hear.new.piece in
    let fault = rw c.in-Err-outcome.is at c.take-next.ensures.fault in
    let heard = rw c.in-Err-outcome.is at
    c.take-next.ensures.heard c.args.every old _ known.turns _
    (heard_piece honest story c.args.every old begun from _ _ _ _ c.loop.counter c.loop.listener known c.hear.ensures.held c.hear.ensures.name
    piece c.in-Ok.ensures.heard c.in-Ok.ensures.bytes.0) in
    let broken = c.into_disk.ensures c.args.every old _ (known.turns ++ heard.0) _ _ heard.2 in
    piece_broken honest story c.args.every old begun from _ _ _ _ c.loop.counter c.loop.listener known c.hear.ensures.held c.hear.ensures.name
    piece _ _ heard.0 _ c.in-Err-outcome.fault c.in-Ok.ensures.heard c.in-Ok.ensures.bytes.0 c.take-next.ensures.tells fault
    (broken_finishes honest old _ c.args.every _ _ _ _ c.in-Err-outcome.fault fault broken)

pub returns-in-Err-outcome-clause-outcome : goal.returns-in-Err-outcome-clause-outcome
returns-in-Err-outcome-clause-outcome g c = records_bytes _ _ _ _ _ _ _ _ _ (output_failed g c)

pub returns-in-Err-outcome-clause-in_turn : goal.returns-in-Err-outcome-clause-in_turn
returns-in-Err-outcome-clause-in_turn g c = records_in_turn _ _ _ _ _ _ _ _ _ (output_failed g c)

-- ---- the read failed

read_failed : (g : Over) (c : goal.After-break_off g) →
    HasEnded g.D.Disk.honest (g.D.Disk.story c.args.disk) (g.D.Disk.story c.break_off.result.0) c.args.every
    (g.P.Dialogue.story c.args.dialogue.now) (g.P.Dialogue.story c.break_off.new.dialogue) (g.P.Dialogue.sides c.args.dialogue.now)
    (g.P.Dialogue.sides c.break_off.new.dialogue) c.break_off.result.1
read_failed g c =
    let honest = g.D.Disk.honest in
    let story = g.D.Disk.story in
    let old = story c.args.disk in
    let begun = g.P.Dialogue.story c.args.dialogue.now in
    let from = g.P.Dialogue.sides c.args.dialogue.now in
    let known = c.loop.invariant.recorded in
    let none = keeps_nothing _ _ c.in-Err.ensures.bytes in
    let outcome =
    c.break_off.ensures.outcome c.args.every old _ known.turns _
    (heard_nothing honest story c.args.every old begun from _ _ _ _ c.loop.counter c.loop.listener known c.hear.ensures.held c.hear.ensures.name
    c.in-Err.why c.in-Err.ensures.heard none) in
    input_failed honest story c.args.every old begun from _ _ _ _ c.loop.counter c.loop.listener known c.hear.ensures.held c.hear.ensures.name
    c.in-Err.why _ _ outcome.0 _ c.break_off.result.1 c.in-Err.ensures.heard none c.break_off.ensures.tells c.break_off.ensures.broken
    c.break_off.ensures.fault outcome.1

pub returns-in-Err-clause-outcome : goal.returns-in-Err-clause-outcome
returns-in-Err-clause-outcome g c = records_bytes _ _ _ _ _ _ _ _ _ (read_failed g c)

pub returns-in-Err-clause-in_turn : goal.returns-in-Err-clause-in_turn
returns-in-Err-clause-in_turn g c = records_in_turn _ _ _ _ _ _ _ _ _ (read_failed g c)

-- ---- there were too many reads

reads_over : (g : Over) (c : goal.After-break_off-2 g) →
    HasEnded g.D.Disk.honest (g.D.Disk.story c.args.disk) (g.D.Disk.story c.break_off-2.result.0) c.args.every
    (g.P.Dialogue.story c.args.dialogue.now) (g.P.Dialogue.story c.break_off-2.new.dialogue) (g.P.Dialogue.sides c.args.dialogue.now)
    (g.P.Dialogue.sides c.break_off-2.new.dialogue) c.break_off-2.result.1
reads_over g c =
    let honest = g.D.Disk.honest in
    let story = g.D.Disk.story in
    let old = story c.args.disk in
    let begun = g.P.Dialogue.story c.args.dialogue.now in
    let from = g.P.Dialogue.sides c.args.dialogue.now in
    let known = c.loop.invariant.recorded in
    let outcome = c.break_off-2.ensures.outcome c.args.every old _ known.turns _ known.heard in
    let most : c.loop.counter ≡ 2 ^ 40 = omega (arith, c.loop-test.false, c.loop.auto.counter-end) in
    too_many honest story c.args.every old begun from _ _ _ _ c.loop.counter c.loop.listener known outcome.0 _ c.break_off-2.result.1 most
    c.break_off-2.ensures.tells c.break_off-2.ensures.broken c.break_off-2.ensures.fault outcome.1

pub returns-clause-outcome : goal.returns-clause-outcome
returns-clause-outcome g c = records_bytes _ _ _ _ _ _ _ _ _ (reads_over g c)

pub returns-clause-in_turn : goal.returns-clause-in_turn
returns-clause-in_turn g c = records_in_turn _ _ _ _ _ _ _ _ _ (reads_over g c)
