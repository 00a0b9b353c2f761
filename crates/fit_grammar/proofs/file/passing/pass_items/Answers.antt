use Rattle.std.proofs.Common.{take, drop, refl, arith}
use Rattle.std.proofs.lemmas.List.{length-take-le, take_rest}
use Rattle.fit_grammar.specs.Calls.Table.{definition_in}
use Rattle.fit_grammar.specs.Private.Passing.{framed_items, end_of}
use Rattle.fit_grammar.proofs.Decoding.Reached.{reached_fits, spelled_size}
use Rattle.fit_grammar.proofs.LentRow.Passed.{passes_first, passes_more, passing_refused, passes_all}
use Rattle.fit_grammar.proofs.file.passing.pass_items.Goals as goal

pub loop-at-init : goal.loop-at-init
loop-at-init c = record {
  passed = passes_first c.args.bytes.now c.args.header (definition_in c.new-latest.result) c.requires.begins c.requires.fits
      c.new-latest.ensures;
  end_is = refl;
}

pub overflow_add-size : goal.overflow_add-size
overflow_add-size c =
    let p = c.loop-at.invariant.passed in
    let t = rw take_rest at c.in-Ok.ensures.passed in
    let fits = reached_fits c.args.bytes.now (framed_items c.args.header.frame p.items) c.loop-at.at (end_of c.args.header) p.reached in
    let own = spelled_size t.item (take c.in-Ok.used (drop c.loop-at.at c.args.bytes.now)) t.at_front.spelled in
    record {
      fits = omega (
        arith,
        fits,
        own,
        p.size_is,
        t.written_is,
        t.inside,
        length-take-le c.in-Ok.used (drop c.loop-at.at c.args.bytes.now) t.at_front.within,
      );
    }

pub loop-at-preserved : goal.loop-at-preserved
loop-at-preserved c = record {
  passed = passes_more (definition_in c.loop-at.latest) (definition_in c.pass_item.new.latest) c.args.bytes.now c.args.header
      c.loop-at.at c.loop-at.size c.in-Ok.used c.in-Ok.written c.loop-at.invariant.passed c.loop-at-test.true
      (rw take_rest at c.in-Ok.ensures.passed);
  end_is = refl;
}

pub returns-in-Err-clause-refused : goal.returns-in-Err-clause-refused
returns-in-Err-clause-refused c =
    rw c.fault_at.ensures (passing_refused (definition_in c.loop-at.latest) c.args.bytes.now c.args.header c.loop-at.at c.loop-at.size
    c.in-Err.kind c.loop-at.invariant.passed c.loop-at-test.true (rw take_rest at c.in-Err.ensures.shown))

pub overflow_cast-result : goal.overflow_cast-result
overflow_cast-result c =
    let p = c.loop-at.invariant.passed in
    let fits = reached_fits c.args.bytes.now (framed_items c.args.header.frame p.items) c.loop-at.at (end_of c.args.header) p.reached in
    record { fits = omega (arith, fits, p.size_is) }

pub returns-clause-passed : goal.returns-clause-passed
returns-clause-passed c =
    passes_all (definition_in c.loop-at.latest) c.args.bytes.now c.args.header c.loop-at.at c.loop-at.size c.loop-at.invariant.passed
    c.loop-at-test.false
