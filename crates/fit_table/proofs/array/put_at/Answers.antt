use Rattle.fit_table.proofs.CellLemmas.{float32_tokens, float64_tokens, whole_tokens}
use Rattle.fit_table.proofs.TokenLemmas.{tokens_same, tokens_text}
use Rattle.fit_table.proofs.array.put_at.Goals as goal

pub returns-in-Float32 : goal.returns-in-Float32
returns-in-Float32 g c = tokens_same c.put_float32.ensures (float32_tokens _ _ _ _ _ c.in-Float32.is c.unsigned.ensures.number)

pub returns-in-Float64 : goal.returns-in-Float64
returns-in-Float64 g c = tokens_same c.put_float64.ensures (float64_tokens _ _ _ _ _ c.in-Float64.is c.unsigned-in-Float64.ensures.number)

pub returns-in_default : goal.returns-in_default
returns-in_default g c = tokens_same (tokens_text c.put_whole.ensures) (whole_tokens _ _ _ _ c.in_default.not-Float32 c.in_default.not-Float64)
