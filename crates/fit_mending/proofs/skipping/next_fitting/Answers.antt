use Rattle.std.proofs.Common.{◌≡◌, Bool, true, false, length, min, arith}
use Rattle.std.proofs.lemmas.List.{take_rest}
use Rattle.fit_grammar.specs.Calls.Table.{definition_in}
use Rattle.fit_mending.proofs.Reading.{none_after, none_less, none_more}
use Rattle.fit_mending.proofs.skipping.next_fitting.Goals as goal

both : (b : Bool) → b ≡ true → b ≡ false → ⊥
both b is isnt = cc

pub returns-then-fits_at-clause-before : goal.returns-then-fits_at-clause-before
returns-then-fits_at-clause-before c =
    none_after (definition_in c.args.latest.now) c.args.progress.now c.args.bytes.now c.args.from c.loop-count.count c.count_stray.result
    c.loop-count.invariant.0 (rw take_rest at c.count_stray.ensures.none)

pub loop-count-preserved : goal.loop-count-preserved
loop-count-preserved c =
    let all = rw take_rest at c.fits_at.ensures.all in (
      none_more (definition_in c.args.latest.now) c.args.progress.now c.args.bytes.now c.args.from c.loop-count.count
          c.loop-count.invariant.0 (λ here. both c.fits_at.result (all here) c.if-fits_at.false),
      (omega arith, omega arith, omega arith, omega arith),
      omega (arith, c.loop-count-test.true, c.min-count-end.ensures),
    )

pub returns-clause-none : goal.returns-clause-none
returns-clause-none c = λ _.
    none_less (definition_in c.args.latest.now) c.args.progress.now c.args.bytes.now c.args.from (min c.args.end (length c.args.bytes.now))
    c.loop-count.count c.loop-count.invariant.0 (omega (arith, c.loop-count-test.false, c.min-count-end.ensures))

pub returns-clause-passed : goal.returns-clause-passed
returns-clause-passed c = λ _. (omega arith, omega arith, omega arith, omega (arith, c.loop-count-test.false, c.min-count-end.ensures))
