use Rattle.std.proofs.Common.{◌≡◌, Bool, true, false, drop, arith}
use Rattle.std.proofs.lemmas.List.{take_rest}
use Rattle.fit_grammar.specs.Calls.Table.{definition_in}
use Rattle.fit_mending.proofs.Reading.{none_more}
use Rattle.fit_mending.proofs.Trusted.{sound_trusted}
use Rattle.fit_mending.proofs.stray.first_trusted.Goals as goal

both : (b : Bool) → b ≡ true → b ≡ false → ⊥
both b is isnt = cc

pub returns-then-is_trusted-clause-some : goal.returns-then-is_trusted-clause-some
returns-then-is_trusted-clause-some c =
    let is = rw take_rest at c.is_trusted.ensures.is in
    λ less. sound_trusted (definition_in c.args.latest.now) c.args.progress.now (drop c.loop-place.place c.args.bytes.now) (is.0 c.if-is_trusted.true)

pub loop-place-preserved : goal.loop-place-preserved
loop-place-preserved c =
    let is = rw take_rest at c.is_trusted.ensures.is in (
      λ earlier less trusted.
          none_more (definition_in c.args.latest.now) c.args.progress.now c.args.bytes.now 0 c.loop-place.place
          (λ place least before. c.loop-place.invariant.0 place before) (λ here. both c.is_trusted.result (is.1 here) c.if-is_trusted.false)
          earlier (omega arith) less trusted,
      (omega arith, omega arith, omega arith),
    )

pub returns-clause-none : goal.returns-clause-none
returns-clause-none c = λ place less trusted. c.loop-place.invariant.0 place (omega (arith, less, c.loop-place-test.false)) trusted
