use Rattle.std.proofs.Common.{◌+◌, take, drop, subst, [], refl, sym, ap, ◌∙◌, append-nil, arith}
use Rattle.std.specs.Prelude.{is_some}
use Rattle.std.proofs.lemmas.List.{length-drop, length-take, take_rest}
use Rattle.fit_grammar.specs.Format.Records.{in_force}
use Rattle.fit_grammar.specs.Calls.Step.{item_of}
use Rattle.fit_grammar.specs.Calls.Table.{definition_in}
use Rattle.fit_grammar.proofs.OneItem.Spelling.{spelling_not_empty}
use Rattle.fit_mending.proofs.Rows.{passes_more}
use Rattle.fit_mending.specs.declared.progress.Progress.{Progress}
use Rattle.fit_mending.specs.Steady.{IsTrusted, row_size}
use Rattle.fit_mending.proofs.Reading.{never_trusted, passes_end, passes_first, passes_on}
use Rattle.fit_mending.proofs.Steady.{passes_all, passes_next}
use Rattle.fit_mending.proofs.skipping.pass_items.Goals as goal

pub loop-item-init : goal.loop-item-init
loop-item-init c = (
  omega arith,
  λ before e. record {
    within = omega arith;
    items = [];
    are_records = refl;
    in_force_are = e ∙ ap in_force (sym (append-nil before));
  },
  λ row last long steady. λ some. record {
    left = row;
    quiet = 0;
    short = omega arith;
    steady = steady;
    size = omega arith;
  },
  λ row after reads. passes_first (definition_in c.args.latest.now) c.args.progress.now c.args.bytes.now row after (0 + row_size row) (omega arith) reads,
  (omega arith, omega arith, omega arith, omega arith),
)

pub loop-item-preserved : goal.loop-item-preserved
loop-item-preserved c =
    let f = definition_in c.loop-item.latest in
    let bytes = c.args.bytes.now in
    let at = rw take_rest at c.in-Some.ensures.found.states in (
      omega (arith, c.loop-item.invariant.0, at.within, length-drop c.loop-item.front bytes),
      λ before e. passes_more before f (definition_in c.take_over.new.latest) bytes c.loop-item.front (item_of c.in-Some.item)
          c.in-Some.used (c.loop-item.invariant.1 before e) at c.take_over.ensures,
      λ row last long steady.
          passes_next f (definition_in c.take_over.new.latest) c.loop-item.progress c.fitting_item.new.progress bytes c.loop-item.front
          (row_size row) last c.in-Some.item c.in-Some.used (c.loop-item.invariant.2 row last long steady)
          (rw take_rest at c.in-Some.ensures.steady) c.take_over.ensures long,
      passes_on (definition_in c.args.latest.now) f (definition_in c.take_over.new.latest) c.args.progress.now c.loop-item.progress
          c.fitting_item.new.progress bytes c.loop-item.front c.in-Some.item c.in-Some.used c.loop-item.invariant.3
          (rw take_rest at c.in-Some.ensures.read) c.take_over.ensures,
      (
        omega arith,
        omega arith,
        omega arith,
        omega (
          arith,
          spelling_not_empty (item_of c.in-Some.item) (take c.in-Some.used (drop c.loop-item.front bytes)) at.spelled,
          length-take c.in-Some.used (drop c.loop-item.front bytes),
        ),
      ),
    )

pub returns-clause-steady : goal.returns-clause-steady
returns-clause-steady c = λ row last long steady.
    passes_all (definition_in c.loop-item.latest) c.loop-item.progress c.fitting_item.new.progress c.args.bytes.now c.loop-item.front
    (row_size row) last c.fitting_item.result (c.loop-item.invariant.2 row last long steady) (rw take_rest at c.fitting_item.ensures.steady)
    (λ item used. c.in_default.not-Some (item, used)) long

pub returns-clause-read : goal.returns-clause-read
returns-clause-read c =
    passes_end (definition_in c.args.latest.now) (definition_in c.loop-item.latest) c.args.progress.now c.loop-item.progress
    c.fitting_item.new.progress c.args.bytes.now c.loop-item.front c.loop-item.invariant.3 (c.fitting_item.ensures.none (ap is_some c.in_default.is))

pub returns-clause-ends : goal.returns-clause-ends
returns-clause-ends c = λ trusted.
    never_trusted (definition_in c.loop-item.latest) c.loop-item.progress c.fitting_item.new.progress (drop c.loop-item.front c.args.bytes.now)
    c.fitting_item.result (rw take_rest at c.fitting_item.ensures.steady) (λ item used. c.in_default.not-Some (item, used))
    (subst (λ (p : Progress). IsTrusted (definition_in c.loop-item.latest) p (drop c.loop-item.front c.args.bytes.now))
    (c.fitting_item.ensures.none (ap is_some c.in_default.is)) trusted)
