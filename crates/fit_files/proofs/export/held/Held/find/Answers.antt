use Rattle.std.proofs.Common.{[], ℕ, List, false, get_or, subst, sym, ◌∙◌, arith, eqb-true}
use Rattle.std.proofs.lemmas.Bool.{eqb-false}
use Rattle.fit_grammar.specs.Calls.LentItem.{items_lent}
use Rattle.fit_files.specs.Exports.Held.{AreHeld, is_held, numbers_by, or_time}
use Rattle.fit_files.proofs.Exports.Fields.{few_first, numbers_found, none_held, some_held}
use Rattle.fit_files.proofs.export.held.Held.find.Goals as goal

pub returns-then-is_empty : goal.returns-then-is_empty
returns-then-is_empty c =
    let held = is_held c.args.message (items_lent c.args.file.now.items) in
    let at_first : AreHeld [] (record { fields = c.clear.new.self; left_out = 0 }) = record { fields = c.clear.ensures; left_out = omega arith } in
    let first = c.add_if.ensures [] (omega arith) at_first in
    let all = subst (λ (numbers : List ℕ). AreHeld numbers c.add_others.new.self)
    (numbers_found c.numbers_in-held.result held c.from.result c.from.ensures c.numbers_in-held.ensures) (c.add_others.ensures _ (few_first (get_or c.numbers_in-held.result c.from.result false)) first) in
    let none = none_held (numbers_by held) c.add_others.new.self.fields.items all.fields (eqb-true _ 0 (sym c.is_empty.ensures ∙ c.if-is_empty.true)) in
    subst (λ (numbers : List ℕ). AreHeld (or_time numbers) c.add.new.self) (sym none) (c.add.ensures [] (omega arith) (subst (λ (numbers : List ℕ). AreHeld numbers c.add_others.new.self) none all))

pub returns-else-is_empty : goal.returns-else-is_empty
returns-else-is_empty c =
    let held = is_held c.args.message (items_lent c.args.file.now.items) in
    let at_first : AreHeld [] (record { fields = c.clear.new.self; left_out = 0 }) = record { fields = c.clear.ensures; left_out = omega arith } in
    let first = c.add_if.ensures [] (omega arith) at_first in
    let all = subst (λ (numbers : List ℕ). AreHeld numbers c.add_others.new.self)
    (numbers_found c.numbers_in-held.result held c.from.result c.from.ensures c.numbers_in-held.ensures) (c.add_others.ensures _ (few_first (get_or c.numbers_in-held.result c.from.result false)) first) in
    let some = some_held (numbers_by held) c.add_others.new.self.fields.items all.fields (eqb-false _ 0 (sym c.is_empty.ensures ∙ c.if-is_empty.false)) in
    subst (λ (numbers : List ℕ). AreHeld numbers c.add_others.new.self) (sym some) all
