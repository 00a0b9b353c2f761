use Rattle.std.proofs.Common.{◌≡◌, ◌∷◌, ℕ, Bool, true, false, drop, Option, Some, None, refl, sym, ap, subst, ◌∙◌, arith}
use Rattle.std.proofs.lemmas.List.{take_rest}
use Rattle.fit_grammar.specs.Calls.Step.{item_of}
use Rattle.fit_grammar.specs.Calls.Table.{definition_in, in_force_after}
use Rattle.fit_mending.specs.declared.clock.Sign.{Sign}
use Rattle.fit_mending.specs.declared.progress.Progress.{Progress}
use Rattle.fit_mending.specs.Steady.{HasSteady, IsSteady, quiet_after}
use Rattle.fit_mending.proofs.Reading.{reads_item}
use Rattle.fit_mending.proofs.Steady.{first_said, goes_on, whole_one}
use Rattle.fit_mending.proofs.skipping.fitting_item.Goals as goal

both : (b : Bool) → b ≡ true → b ≡ false → ⊥
both b is isnt = cc

none_of : (said : Option Sign) (sign : Sign) → said ≡ Some sign → said ≡ None → ⊥
none_of said sign is none = cc

pub returns-in_default-clause-steady : goal.returns-in_default-clause-steady
returns-in_default-clause-steady c = λ quiet one row short long steady.
    absurd (goes_on 33 (definition_in c.args.latest.now) c.args.progress.now c.args.bytes.now c.step_after.result
    (quiet, one ∷ row, short, omega (arith, long), steady) (omega arith) c.step_after.ensures.states c.in_default.not-Item)

pub returns-then-runs_into_unwritten-clause-steady : goal.returns-then-runs_into_unwritten-clause-steady
returns-then-runs_into_unwritten-clause-steady c = λ quiet one row short long steady.
    absurd (both c.runs_into_unwritten.result c.if-runs_into_unwritten.true
    (c.runs_into_unwritten.ensures ∙ whole_one (definition_in c.args.latest.now) c.args.progress.now quiet c.args.bytes.now one row c.in-Item.item
    c.in-Item.used steady c.in-Item.ensures))

pub returns-then-not-goes_on-clause-steady : goal.returns-then-not-goes_on-clause-steady
returns-then-not-goes_on-clause-steady c = λ quiet one row short long steady.
    let goes = c.goes_on.ensures.steady (quiet, one ∷ row, short, omega (arith, long), steady) in
    absurd (both c.goes_on.result goes.0 c.if-not-goes_on.true)

pub returns-then-not-is_whole-clause-steady : goal.returns-then-not-is_whole-clause-steady
returns-then-not-is_whole-clause-steady c = λ quiet one row short long steady.
    let f = definition_in c.args.latest.now in
    let bytes = c.args.bytes.now in
    let goes = c.goes_on.ensures.steady (quiet, one ∷ row, short, omega (arith, long), steady) in
    let is = first_said f (in_force_after (item_of c.in-Item.item) f) c.goes_on.new.progress c.judge.new.self quiet bytes one row
    c.in-Item.item c.in-Item.used c.judge.result
    (subst (λ (p : Progress). IsSteady f p quiet bytes (one ∷ row)) (sym goes.1) steady) c.in-Item.ensures c.judge.ensures refl in
    let next : HasSteady 1 (in_force_after (item_of c.in-Item.item) f) c.judge.new.self (drop c.in-Item.used bytes) =
    (quiet_after quiet is.sign, row, is.short, omega (arith, long), is.steady) in
    absurd (both c.is_whole.result (rw take_rest at c.is_whole.ensures.steady next) c.if-not-is_whole.true)

pub returns-else-not-is_whole-clause-steady : goal.returns-else-not-is_whole-clause-steady
returns-else-not-is_whole-clause-steady c = λ quiet one row short long steady.
    let f = definition_in c.args.latest.now in
    let bytes = c.args.bytes.now in
    let goes = c.goes_on.ensures.steady (quiet, one ∷ row, short, omega (arith, long), steady) in
    let is = first_said f (in_force_after (item_of c.in-Item.item) f) c.goes_on.new.progress c.judge.new.self quiet bytes one row
    c.in-Item.item c.in-Item.used c.judge.result
    (subst (λ (p : Progress). IsSteady f p quiet bytes (one ∷ row)) (sym goes.1) steady) c.in-Item.ensures c.judge.ensures refl in
    record {
      item = c.in-Item.item;
      found_is = ap (λ (n : ℕ). Some (c.in-Item.item, n)) (sym is.size);
      quiet = quiet_after quiet is.sign;
      short = is.short;
      steady = subst (λ (n : ℕ). IsSteady (in_force_after (item_of c.in-Item.item) f) c.judge.new.self (quiet_after quiet is.sign) (drop n bytes) row) (sym is.size) is.steady;
    }

pub returns-in-None-clause-steady : goal.returns-in-None-clause-steady
returns-in-None-clause-steady c = λ quiet one row short long steady.
    let f = definition_in c.args.latest.now in
    let bytes = c.args.bytes.now in
    let goes = c.goes_on.ensures.steady (quiet, one ∷ row, short, omega (arith, long), steady) in
    let is = first_said f (in_force_after (item_of c.in-Item.item) f) c.goes_on.new.progress c.judge.new.self quiet bytes one row
    c.in-Item.item c.in-Item.used c.judge.result
    (subst (λ (p : Progress). IsSteady f p quiet bytes (one ∷ row)) (sym goes.1) steady) c.in-Item.ensures c.judge.ensures refl in
    absurd (none_of c.judge.result is.sign is.said_is c.in-None.is)

pub returns-else-not-is_whole-clause-read : goal.returns-else-not-is_whole-clause-read
returns-else-not-is_whole-clause-read c =
    reads_item (definition_in c.args.latest.now) c.args.progress.now c.goes_on.new.progress c.judge.new.self c.args.bytes.now _ c.in-Item.item
    c.in-Item.used c.judge.result c.in-Some.field-0 c.goes_on.ensures.begun c.in-Item.ensures c.judge.ensures refl c.in-Some.is
    (sym c.runs_into_unwritten.ensures ∙ c.if-runs_into_unwritten.false) (rw take_rest at c.is_whole.ensures.whole c.if-not-is_whole.false)
