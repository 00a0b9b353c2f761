use Rattle.std.proofs.Common.{◌≡◌, ◌+◌, List, [], ℕ, length, drop, refl, sym, ◌∙◌, subst, append-nil, arith}
use Rattle.std.specs.Prelude.{slice_range}
use Rattle.std.proofs.lemmas.List.{length-drop, take_rest}
use Rattle.std.proofs.lemmas.Result.{on_ok_weaker}
use Rattle.fit_grammar.specs.Format.Item.{Item}
use Rattle.fit_grammar.specs.Format.Records.{Records, RecordsAfter}
use Rattle.fit_grammar.specs.Format.Records.{in_force}
use Rattle.fit_mending.specs.Judged.{nothing}
use Rattle.fit_mending.specs.Steady.{row_size}
use Rattle.fit_mending.proofs.Cut.{cut_none, keeps_first}
use Rattle.fit_mending.proofs.Steady.{row_within}
use Rattle.fit_mending.proofs.Rows.{records_after}
use Rattle.fit_mending.proofs.skipping.keep_all.Goals as goal

pub returns-clause-cut : goal.returns-clause-cut
returns-clause-cut g c =
    let bytes = c.args.bytes.now in
    let front = c.args.front in
    let items = c.requires.row.0 in
    let own = slice_range bytes front (length bytes) in
    let all : own ≡ drop front bytes = rw take_rest refl in
    let are = subst (λ (l : List ℕ). Records l items) (sym all) c.requires.row.1 in
    on_ok_weaker c.put_piece.result
    (λ more. (
      more.0,
      more.1,
      λ before. (
        items,
        more.2.cut before front [] items (cut_none before bytes front)
            (subst (λ (is : List Item). RecordsAfter is own items) (sym (append-nil before)) (records_after before own items are)),
      ),
      more.2.row ∙ all,
      λ row last steady long. keeps_first bytes front (front + row_size row) (length bytes) more.0 more.0 more.2 ([], sym (append-nil more.0))
          (omega (arith, c.requires.within, length-drop front bytes, row_within (in_force []) nothing 0 (drop front bytes) row last steady)),
    ))
    (c.put_piece.ensures.cut bytes [] (omega arith) c.requires.none)
