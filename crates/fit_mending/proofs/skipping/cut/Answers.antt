use Rattle.std.proofs.Common.{◌≡◌, ℕ, ◌+◌, ◌≤◌, inl, inr, List, [], ◌++◌, length, drop, sym, ap, subst, ◌∙◌, append-nil, Option, None, arith}
use Rattle.std.proofs.lemmas.List.{length-drop, take_rest}
use Rattle.std.proofs.Math.Path.{fun_ext}
use Rattle.std.proofs.lemmas.Result.{on_ok_weaker}
use Rattle.fit_grammar.specs.Format.Item.{Item}
use Rattle.fit_grammar.specs.Format.Records.{Records, in_force}
use Rattle.fit_grammar.specs.Calls.Table.{definition_in}
use Rattle.fit_grammar.specs.declared.definition.Definition.{Definition}
use Rattle.fit_mending.specs.declared.progress.Progress.{Progress}
use Rattle.fit_mending.specs.Judged.{nothing}
use Rattle.fit_mending.specs.Reading.{IsNoted}
use Rattle.fit_mending.specs.Steady.{IsSteady, Sized, row_size}
use Rattle.fit_mending.proofs.Cut.{added_more, cuts_first, from_to, keeps_first}
use Rattle.fit_mending.proofs.Reading.{reads_from}
use Rattle.fit_mending.proofs.Rows.{records_after}
use Rattle.fit_mending.proofs.skipping.cut.Goals as goal
use Rattle.fit_mending.proofs.skipping.cut.Goals.{then-lends, else-lends}

within : (bytes : List ℕ) (at count : ℕ) → at ≤ length bytes → count ≤ length (drop at bytes) → at + count ≤ length bytes
within bytes at count le more = omega (arith, le, more, length-drop at bytes)

own_none : (own : List (Option Definition)) → ((local : ℕ) → definition_in own local ≡ None) → definition_in own ≡ in_force []
own_none own none = fun_ext none

steady_most : (bytes : List ℕ) (front count : ℕ) (own : ℕ → Option Definition) (start : Progress) → own ≡ in_force [] → start ≡ nothing
    → ((row last : List Sized) → 32 ≤ length last → IsSteady own start 0 (drop front bytes) (row ++ last) → row_size row ≤ count)
    → (row last : List Sized) → 32 ≤ length last → IsSteady (in_force []) nothing 0 (drop front bytes) (row ++ last) → row_size row ≤ count
steady_most bytes front count own start own_is start_is most row last long steady =
    most row last long
    (subst (λ (f : ℕ → Option Definition). IsSteady f start 0 (drop front bytes) (row ++ last)) (sym own_is)
    (subst (λ (p : Progress). IsSteady (in_force []) p 0 (drop front bytes) (row ++ last)) (sym start_is) steady))

pub returns-clause-cut : goal.returns-clause-cut
returns-clause-cut g c =
    let bytes = c.args.bytes.now in
    let front = c.args.front in
    let count = c.pass_items.result in
    let own_is = own_none c.new-own.result c.new-own.ensures in
    let p = rw take_rest at c.pass_items.ensures.passed [] own_is in
    let end : front + count ≤ length bytes = within bytes front count c.requires.within (rw take_rest at c.pass_items.ensures.within) in
    let at : front + count + c.count_faulty.result ≤ length bytes =
    within bytes (front + count) c.count_faulty.result end (rw take_rest at c.count_faulty.ensures.within) in
    let kept = c.in_ok-put_piece.ensures.cut bytes [] end c.requires.none in
    let left = c.in_ok-put_piece-2.ensures.cut bytes kept.0 at kept.1 in
    let is_noted : IsNoted c.pass_items.new.progress c.if-lends.progress =
    elim c.if-lends.branch [
      | then-lends w ↦ inr w.progress-is
      | else-lends w ↦ inl w.progress-is
    ] in
    on_ok_weaker c.cut_on.result
    (λ more. (
      more.0,
      more.1,
      λ before known.
          more.2 before (p.items ++ []) front
          (c.pass_row.ensures before p.items (ap definition_in c.again-latest.ensures ∙ known)
          (records_after before _ p.items (subst (λ (l : List ℕ). Records l p.items) (from_to bytes front count) p.are_records))
          ∙ ap (λ (is : List Item). in_force (before ++ is)) (sym (append-nil p.items)))
          (cuts_first before bytes front count _ (definition_in c.pass_items.new.latest) kept.0 left.0 p kept.2 left.2),
      λ before known.
          let are = records_after before _ p.items (subst (λ (l : List ℕ). Records l p.items) (from_to bytes front count) p.are_records) in
          reads_from before p.items bytes front count c.count_faulty.result (definition_in c.new-own.result)
          (definition_in c.pass_items.new.latest) (definition_in c.pass_row.new.latest) c.new-progress.result c.pass_items.new.progress
          c.if-lends.progress c.count_faulty.new.progress kept.0 left.0 more.0 own_is c.new-progress.ensures
          (rw take_rest at c.pass_items.ensures.read)
          (λ row last long steady. steady_most bytes front count (definition_in c.new-own.result) c.new-progress.result own_is
          c.new-progress.ensures (rw take_rest at c.pass_items.ensures.steady) row last long steady)
          are (c.pass_row.ensures before p.items (ap definition_in c.again-latest.ensures ∙ known) are) is_noted
          (rw take_rest at c.count_faulty.ensures.left) kept.2.one left.2.one more.4,
      λ row last steady long. keeps_first bytes front (front + row_size row) (front + count) kept.0 more.0 kept.2
          (added_more kept.0 left.0 more.0 left.2.added more.3) (omega (
            arith,
            steady_most bytes front count (definition_in c.new-own.result) c.new-progress.result own_is
                c.new-progress.ensures (rw take_rest at c.pass_items.ensures.steady) row last long steady,
          )),
    ))
    (c.cut_on.ensures.cut left.0 left.1)
