-- A call that a host can follow.
use Rattle.std.specs.Prelude.{ℕ, ◌+◌, ◌≤◌}
use Rattle.fit_plan.specs.Carried.{write_kind, sync_kind}
use Rattle.fit_plan.specs.declared.calls.Call.{Call}

-- it is of a known kind, on one of the two files, and its bytes are among the first so many
pub record IsCallWithin (most : ℕ) (call : Call) : Type 0 where
  pub known : (write_kind ≤ call.kind) × (call.kind ≤ sync_kind)
  pub on_file : call.file ≤ 1
  pub within : call.start + call.count ≤ most
