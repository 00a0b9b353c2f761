use Rattle.std.proofs.Common.{◌≡◌, ◌<◌, ◌==◌, ◌&&◌, ◌||◌, ℕ, false, nat_lt, get_or, length}
use Rattle.fit_files.proofs.export.held.numbers_in.Given as goal

abbrev pub invariant-loop-number : goal.invariant-loop-number
invariant-loop-number l = record {
  long : length l.held ≡ 256;
  held : (k : ℕ) → k < l.number → get_or l.held k false ≡ (nat_lt 1 (get_or l.known k 0) || ((k == 253) && l.timed));
}
