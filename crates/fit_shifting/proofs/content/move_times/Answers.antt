use Rattle.std.proofs.Common.{arith}
use Rattle.fit_shifting.proofs.MovedTimes.{time_passed, time_moved, times_done}
use Rattle.fit_shifting.proofs.content.move_times.Goals as goal

pub loop-bytes-preserved : goal.loop-bytes-preserved
loop-bytes-preserved c =
    let l = c.loop-bytes in
    record {
      within = time_passed c.args.shift c.args.arch l.bytes c.move_time.new.bytes l.at _ (omega arith) c.loop-bytes-test.true c.move_time.ensures;
      so_far = time_moved c.args.shift c.args.arch l.bytes c.move_time.new.bytes _ l.at _ (omega arith) c.loop-bytes-test.true c.move_time.ensures
          l.invariant.so_far;
    }

pub returns : goal.returns
returns c =
    times_done c.args.shift c.args.arch c.loop-bytes.bytes _ c.loop-bytes.at c.loop-bytes-test.false c.loop-bytes.invariant.so_far
