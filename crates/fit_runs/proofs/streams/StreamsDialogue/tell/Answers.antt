use Rattle.std.proofs.Common.{take, drop, take-append-drop, refl, sym}
use Rattle.fit_runs.proofs.streams.StreamsDialogue.tell.Goals as goal

pub returns-in-Err : goal.returns-in-Err
returns-in-Err g c = record {
  done = take c.in-Err.count c.args.text.now;
  rest = drop c.in-Err.count c.args.text.now;
  split = sym (take-append-drop c.in-Err.count c.args.text.now);
  all = tt;
  grown = c.note-in-Err.ensures;
  name = refl;
  left = refl;
  held = c.in-Err.ensures.front;
}
