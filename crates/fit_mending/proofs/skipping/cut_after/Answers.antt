use Rattle.std.proofs.Common.{◌≡◌, List, Bool, true, false, length, drop, sym, subst}
use Rattle.std.proofs.lemmas.List.{take_rest}
use Rattle.std.proofs.lemmas.Result.{on_ok_weaker}
use Rattle.fit_grammar.specs.Format.Item.{Item}
use Rattle.fit_grammar.specs.Format.Records.{Records}
use Rattle.fit_mending.proofs.Cut.{first_if}
use Rattle.fit_mending.proofs.skipping.cut_after.Goals as goal
use Rattle.fit_mending.proofs.skipping.cut_after.Goals.{else-trusted-via-then-trusted+else-is_row, else-trusted-via-else-trusted}

both : (b : Bool) → b ≡ true → b ≡ false → ⊥
both b is isnt = cc

pub returns-then-is_row-clause-cut : goal.returns-then-is_row-clause-cut
returns-then-is_row-clause-cut g c =
    let bytes = c.args.bytes.now in
    let front = c.args.front in
    on_ok_weaker c.keep_all.result
    (λ found. (
      found.0,
      found.1,
      λ before is. record {
        cut = found.2 before;
        whole = λ items trusted are. found.3;
        first = first_if before bytes front (length bytes) found.0 (found.2 before).0 (found.2 before).1.are_pieces;
        steady = found.4;
        read = λ not_whole.
            let row = c.is_row.ensures.0 c.if-is_row.true in
            absurd (not_whole row.0 c.if-trusted.true (subst (λ l. Records l row.0) (take_rest bytes front) row.1));
      },
    ))
    c.keep_all.ensures.cut

pub returns-else-trusted-clause-cut : goal.returns-else-trusted-clause-cut
returns-else-trusted-clause-cut g c =
    let bytes = c.args.bytes.now in
    let front = c.args.front in
    let no_row : (items : List Item) → c.args.trusted ≡ true → Records (drop front bytes) items → ⊥ = λ items trusted are.
    elim c.else-trusted.branch [
      | else-trusted-via-then-trusted+else-is_row w ↦ both w.is_row.result
          (w.is_row.ensures.1 (items, subst (λ l. Records l items) (sym (take_rest bytes front)) are)) w.if-is_row.false
      | else-trusted-via-else-trusted w ↦ both c.args.trusted trusted w.if-trusted.false
    ] in
    on_ok_weaker c.cut.result
    (λ found. (
      found.0,
      found.1,
      λ before is. record {
        cut = found.2 before is;
        whole = λ items trusted are. absurd (no_row items trusted are);
        first = first_if before bytes front (length bytes) found.0 (found.2 before is).0 (found.2 before is).1.are_pieces;
        steady = found.4;
        read = λ not_whole. found.3 before is;
      },
    ))
    c.cut.ensures.cut
