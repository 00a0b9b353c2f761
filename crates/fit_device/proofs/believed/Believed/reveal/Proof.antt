-- The field says only that there is something that was read. An entailment is a proposition, so it may be taken in front of the walk that
-- Rattle made.
use seplogic.Bi.Basic.{Entails-prop}
use mathlib.Core.Logic.{∥∥₁_elim}
use base.Logic.{via, mono_r}
use denote.Triple.Entry.{on_entry}
use borrow.Fn.Kinds.{sig_of}
use contract.Monad.{fact_mono}
use Rattle.fit_plan.specs.Plan.{plan_story}
use Rattle.fit_recorder.specs.Calls.Windows.{CanReadOn, ReadsBodyOn}
use Rattle.fit_device.proofs.believed.Believed.reveal.Statement.{statement}
use Rattle.fit_device.proofs.believed.Believed.reveal.Lts as lts
use Rattle.fit_device.proofs.believed.Believed.reveal.Reads as reads
use Rattle.fit_device.proofs.believed.Believed.reveal.Tie as tie

pub reveal_spec : {M : Type 1} → statement M
reveal_spec {M} =
    tie.close (λ 𝓤 𝓛 𝓣 y.
    ∥∥₁_elim y.0.3.0.now.reads_on (Entails-prop 𝓤.op _ _) (λ reads_on.
    via 𝓤 _ (mono_r 𝓤 (on_entry 𝓛 (sig_of 3 lts.ps lts.r) y.0.0 y.0.1 y.0.3 y.0.4) (fact_mono 𝓤 _ (CanReadOn y.0.3.0.now.recovery.now × ReadsBodyOn (plan_story y.0.3.0.now.files.now) y.0.3.0.now.recovery.now) (λ _. reads_on)))
    (lts.spec (λ κs a. CanReadOn a.0.now.recovery.now × ReadsBodyOn (plan_story a.0.now.files.now) a.0.now.recovery.now) reads.Post (λ c. c.requires) 𝓤 𝓛 𝓣 y)))
