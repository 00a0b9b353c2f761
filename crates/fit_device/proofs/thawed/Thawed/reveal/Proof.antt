-- The field says only that there is a list at which the recorder goes on. An entailment is a proposition, so the list may be taken in front of
-- the walk that Rattle made.
use seplogic.Bi.Basic.{Entails-prop}
use mathlib.Core.Logic.{∥∥₁_elim}
use mathlib.Core.Bool.{true, false}
use Rattle.std.specs.Prelude.{◌≡◌}
use base.Logic.{via, mono_r}
use denote.Triple.Entry.{on_entry}
use borrow.Fn.Kinds.{sig_of}
use contract.Monad.{fact_mono}
use Rattle.fit_plan.specs.Plan.{plan_story}
use Rattle.fit_recorder.specs.Calls.Recorder.{GoesOn, has_failed}
use Rattle.fit_device.proofs.thawed.Thawed.reveal.Statement.{statement}
use Rattle.fit_device.proofs.thawed.Thawed.reveal.Lts as lts
use Rattle.fit_device.proofs.thawed.Thawed.reveal.Reads as reads
use Rattle.fit_device.proofs.thawed.Thawed.reveal.Tie as tie

pub reveal_spec : {M : Type 1} → statement M
reveal_spec {M} =
    tie.close (λ 𝓤 𝓛 𝓣 y.
    ∥∥₁_elim y.0.3.0.now.goes_on (Entails-prop 𝓤.op _ _) (λ goes_on.
    via 𝓤 _ (mono_r 𝓤 (on_entry 𝓛 (sig_of 2 lts.ps lts.r) y.0.0 y.0.1 y.0.3 y.0.4) (fact_mono 𝓤 _ (GoesOn true plan_story y.0.3.0.now.recorder.now × (has_failed y.0.3.0.now.recorder.now ≡ false)) (λ _. goes_on)))
    (lts.spec (λ κs a. GoesOn true plan_story a.0.now.recorder.now × (has_failed a.0.now.recorder.now ≡ false)) reads.Post (λ c. c.requires) 𝓤 𝓛 𝓣 y)))
