use Rattle.std.proofs.Common.{◌≡◌, ℕ, ◌+◌, ◌<◌, ◌≤◌, get_or}
use Rattle.std.specs.Prelude.{vec_len, vec_capacity}
use Rattle.fit_disk.specs.Cycle.{free_below, byte_by}
use Rattle.fit_disk.proofs.memory_file.vary.Given as goal

abbrev pub invariant-loop-place : goal.invariant-loop-place
invariant-loop-place l = record {
  done : (k : ℕ) → k < l.place → get_or l.seen.items k 0 ≡ byte_by l.least l.written l.fn.seen.items l.choices k;
  rest : (k : ℕ) → l.place ≤ k → get_or l.seen.items k 0 ≡ get_or l.fn.seen.items k 0;
  count : l.taken ≡ 4 + free_below l.least l.written l.place;
  long : vec_len l.seen ≡ vec_len l.fn.seen;
  room : vec_capacity l.seen ≡ vec_capacity l.fn.seen;
  few : l.taken ≤ 4 + l.place;
}
