use Rattle.std.proofs.Common.{◌≡◌, ◌+◌, length}
use Rattle.fit_files.proofs.plain.count_messages.Given as goal

abbrev pub invariant-loop-message : goal.invariant-loop-message
invariant-loop-message l = l.count + length l._message-iterator ≡ length l.initial._message-iterator
