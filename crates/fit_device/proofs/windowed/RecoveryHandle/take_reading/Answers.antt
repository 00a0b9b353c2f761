use Rattle.std.proofs.Common.{◌≡◌, ℕ, true, take, sym, ap, subst, arith}
use Rattle.std.proofs.Math.Logic.{∥∥₁_map}
use mathlib.Core.Bool.{Bool-set}
use mathlib.Core.Logic.{∥∥₁_elim}
use Rattle.fit_disk.specs.Story.{Story, seen_of}
use Rattle.fit_disk.specs.declared.disk.Which.TheVariants.{Data}
use Rattle.fit_plan.specs.Carried.{which_of}
use Rattle.fit_recorder.specs.Calls.FrozenRecovery.{ReadsOnIn}
use Rattle.fit_recorder.specs.Calls.Windows.{AreAt, ReadsBodyOn, place_of}
use Rattle.fit_recorder.specs.Private.BodyRead.{Reading}
use Rattle.fit_recorder.proofs.Windowed.{can_read_on, reads_on}
use Rattle.fit_device.proofs.windowed.RecoveryHandle.take_reading.Goals as goal

pub invariant_of-reveal : goal.invariant_of-reveal
invariant_of-reveal c =
    let old = c.args.self.now in
    let thawed = c.thaw.ensures in
    record {
      reads_on = ∥∥₁_map (old.believed c.requires.asks.0 c.requires.reads) (λ (on : ReadsOnIn old.reading old.notes.story).
          let is = thawed.possible on.possible in (
            can_read_on c.thaw.new.self _ _ (thawed.reading is) (thawed.replay is) (thawed.journal is) on,
            subst (λ (s : Story). ReadsBodyOn s c.thaw.new.self) (sym c.take_files.ensures.story) (reads_on c.thaw.new.self _ _ (thawed.reading is) (thawed.replay is) (thawed.journal is) on),
          ));
    }

pub returns-clause-placed : goal.returns-clause-placed
returns-clause-placed c =
    let old = c.args.self.now in
    let is : c.thaw.result ≡ true = ∥∥₁_elim (old.believed c.requires.asks.0 c.requires.reads) (Bool-set _ _) (λ (on : ReadsOnIn old.reading old.notes.story). c.thaw.ensures.possible on.possible) in
    let reading = c.thaw.ensures.reading is in
    let at = ap (λ (reading : Reading). reading.at) reading in
    let len = ap (λ (reading : Reading). reading.len) reading in
    let placed = (old.placed c.requires.asks.0).reads c.requires.reads in
    (omega (arith, placed.1, at), omega (arith, placed.2, at, len))

pub returns-clause-given : goal.returns-clause-given
returns-clause-given c =
    let old = c.args.self.now in
    let is : c.thaw.result ≡ true = ∥∥₁_elim (old.believed c.requires.asks.0 c.requires.reads) (Bool-set _ _) (λ (on : ReadsOnIn old.reading old.notes.story). c.thaw.ensures.possible on.possible) in
    let at = ap (λ (reading : Reading). reading.at) (c.thaw.ensures.reading is) in
    let placed = (old.placed c.requires.asks.0).reads c.requires.reads in
    let place : old.at ≡ place_of c.thaw.new.self = omega (arith, placed.1, at) in (
      c.requires.asks.1,
      subst (λ (story : Story). AreAt (place_of c.thaw.new.self) (take old.filled old.window) (seen_of Data story)) (sym c.take_files.ensures.story)
          (subst (λ (at : ℕ). AreAt at (take old.filled old.window) (seen_of Data old.notes.story)) place
          (subst (λ (file : ℕ). AreAt old.at (take old.filled old.window) (seen_of (which_of file) old.notes.story)) placed.0 (old.part c.requires.asks.0 c.requires.asks.1))),
    )
