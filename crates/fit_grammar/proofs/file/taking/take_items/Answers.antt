use Rattle.std.proofs.Common.{◌≡◌, ℕ, ◌+◌, ◌++◌, List, [], drop, refl, subst, arith}
use Rattle.std.proofs.lemmas.Bool.{false≢true}
use Rattle.std.proofs.lemmas.List.{length-drop, take_rest}
use Rattle.fit_grammar.specs.Private.Feeding.{StandsBefore}
use Rattle.fit_grammar.proofs.Pieces.Standing.{stands_fits, stands_noted}
use Rattle.fit_grammar.proofs.Pieces.Items.{next_item, cut_items, item_shown}
use Rattle.fit_grammar.proofs.file.taking.take_items.Goals as goal

pub loop-reading-init : goal.loop-reading-init
loop-reading-init c = record {
  same = record { end = refl; checksum = refl; closing = refl };
  carry = refl;
  later = omega arith;
  within = omega arith;
  closing = c.requires.within;
  stands = λ b s. s;
}

pub take_item-requires : goal.take_item-requires
take_item-requires c =
    let r = c.loop-reading.reading in
    record {
      fits = stands_fits c.requires.stands.0 (r.closing.items ++ drop c.loop-reading.used c.args.bytes.now) r
          (c.loop-reading.invariant.stands c.requires.stands.0 c.requires.stands.1);
      noted = stands_noted c.requires.stands.0 (r.closing.items ++ drop c.loop-reading.used c.args.bytes.now) r
          (c.loop-reading.invariant.stands c.requires.stands.0 c.requires.stands.1);
    }

pub loop-reading-preserved : goal.loop-reading-preserved
loop-reading-preserved c =
    let i = c.loop-reading.invariant in
    let old = c.loop-reading.reading in
    let used = c.loop-reading.used in
    let bytes = c.args.bytes.now in
    let none : old.closing.items ≡ [] = i.closing c.loop-reading-test.true in
    let taken = rw take_rest at c.in-Ok.ensures.taken in
    let new = record old { file = c.take_item.new.file; places = c.take_item.new.places; at = old.at + c.in-Ok.own } in
    record {
      same = record { end = i.same.end; checksum = i.same.checksum; closing = i.same.closing };
      carry = i.carry;
      later = omega (arith, i.later);
      within = omega (arith, i.within, taken.taken.at_front.within, length-drop used bytes);
      closing = λ _. none;
      stands = λ b s. next_item b bytes old new used c.in-Ok.own (i.stands b s) c.loop-reading-test.true none taken
          refl refl refl refl;
    }

pub returns-then-is_cut-clause-ok : goal.returns-then-is_cut-clause-ok
returns-then-is_cut-clause-ok c = λ b s.
    let i = c.loop-reading.invariant in
    let old = c.loop-reading.reading in
    let rest = drop c.loop-reading.used c.args.bytes.now in
    let new = record old { file = c.take_item.new.file; places = c.take_item.new.places } in
    let none : old.closing.items ≡ [] = i.closing c.loop-reading-test.true in (
      i.within,
      cut_items b rest old new c.in-Err.kind (i.stands b s) c.loop-reading-test.true none
          (rw take_rest at c.in-Err.ensures.fault) (c.if-is_cut.ensures.0 refl)
          (record {
            file = c.in-Err.ensures.err;
            places = c.in-Err.ensures.cut (c.if-is_cut.ensures.0 refl);
            at = refl;
            end = refl;
            checksum = refl;
          }) refl,
    )

pub returns-else-is_cut-clause-err : goal.returns-else-is_cut-clause-err
returns-else-is_cut-clause-err c = λ b s.
    let i = c.loop-reading.invariant in
    let old = c.loop-reading.reading in
    let rest = drop c.loop-reading.used c.args.bytes.now in
    let new = record old { file = c.take_item.new.file; places = c.take_item.new.places } in
    let none : old.closing.items ≡ [] = i.closing c.loop-reading-test.true in
    let stands = subst (λ (l : List ℕ). StandsBefore b old (l ++ rest)) none (i.stands b s) in
    item_shown b rest old.file old.at old.end new c.in-Err.kind stands.reached stands.window_is c.loop-reading-test.true
    (rw take_rest at c.in-Err.ensures.fault) (λ e. false≢true (c.if-is_cut.ensures.1 e)) refl
