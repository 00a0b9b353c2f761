use Rattle.std.proofs.Common.{sym}
use Rattle.fit_text.proofs.ValueLemmas.{is_number}
use Rattle.fit_text.proofs.PlanLemmas.{unsigned_kind, signed_kind}
use Rattle.fit_text.proofs.form.plan.kind_of_one.Goals as goal

pub returns-in-Uint32 : goal.returns-in-Uint32
returns-in-Uint32 c = rw c.in-Uint32.is c.kind_of_seconds.ensures

pub returns-in_default : goal.returns-in_default
returns-in_default c =
    let h = signed_kind c.args.base _ c.invalid.ensures (is_number _ c.in_default.not-String c.in_default.not-Byte) (sym c.if-is_signed.ensures) in
    (h.0, λ is same. c.in_default.not-Uint32 same, h.1)

pub returns-in_default-2 : goal.returns-in_default-2
returns-in_default-2 c = (
  unsigned_kind c.args.base _ c.invalid-in_default-2.ensures (is_number _ c.in_default-2.not-String c.in_default-2.not-Byte)
      (sym c.if-is_signed.ensures) c.in_default-2.not-Float32 c.in_default-2.not-Float64,
  λ is same. c.in_default-2.not-Uint32 same,
)
