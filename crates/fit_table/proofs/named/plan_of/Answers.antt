use Rattle.std.proofs.Common.{◌∷◌, ◌++◌, [], length, get_or, map, ap, ◌∙◌, append_assoc, sym, length-append, arith}
use Rattle.std.proofs.lemmas.List.{length-map}
use Rattle.fit_table.specs.NamedPlans.{spread}
use Rattle.fit_table.proofs.NamedLemmas.{any_name, name_of, seen, cells_length, cells_more, first_from, shown, shown_empty, spread_empty, spread_length, spread_more}
use Rattle.fit_table.proofs.named.plan_of.Goals as goal

pub push-requires : goal.push-requires
push-requires c =
    let done = c.loop-left.invariant.0 in
    let cells = c.loop-left.cells.items in
    let many = cells_length (map seen c.args.told.now) c.args.fields.now c.args.start done (spread cells c.loop-left.gap) c.loop-left.invariant.2 in
    omega (
      arith,
      many,
      spread_length cells c.loop-left.gap,
      ap length c.loop-left.invariant.1,
      length-append done (map name_of c.loop-left.left.now),
      length-map c.args.names.now name_of,
      length-map c.loop-left.left.now name_of,
      c.requires.few,
      c.in-len1-up.len_at_least,
    )

pub overflow_add-gap : goal.overflow_add-gap
overflow_add-gap c =
    let done = c.loop-left.invariant.0 in
    let cells = c.loop-left.cells.items in
    let many = cells_length (map seen c.args.told.now) c.args.fields.now c.args.start done (spread cells c.loop-left.gap) c.loop-left.invariant.2 in
    omega (
      arith,
      many,
      spread_length cells c.loop-left.gap,
      ap length c.loop-left.invariant.1,
      length-append done (map name_of c.loop-left.left.now),
      length-map c.args.names.now name_of,
      length-map c.loop-left.left.now name_of,
      c.requires.few,
      c.in-len1-up.len_at_least,
    )

pub loop-left-preserved-then-cell-eq0 : goal.loop-left-preserved-then-cell-eq0
loop-left-preserved-then-cell-eq0 c =
    let done = c.loop-left.invariant.0 in
    let cells = c.loop-left.cells.items in
    let told = map seen c.args.told.now in
    let next = first_from name_of c.loop-left.left.now any_name c.in-len1-up.len_at_least in
    let name = name_of (get_or c.loop-left.left.now 0 any_name) in
    let none = shown_empty told c.args.fields.now c.args.start name c.cell_of-cell.result c.if-cell-eq0.true c.cell_of-cell.ensures.cell in (
      done ++ name ∷ [],
      c.loop-left.invariant.1 ∙ ap (λ names. done ++ names) next ∙ sym (append_assoc done _ _),
      rw (spread_empty cells c.loop-left.gap) (cells_more told c.args.fields.now c.args.start done (spread cells c.loop-left.gap) name _ c.loop-left.invariant.2 none),
    )

pub loop-left-preserved : goal.loop-left-preserved
loop-left-preserved c =
    let done = c.loop-left.invariant.0 in
    let cells = c.loop-left.cells.items in
    let told = map seen c.args.told.now in
    let next = first_from name_of c.loop-left.left.now any_name c.in-len1-up.len_at_least in
    let name = name_of (get_or c.loop-left.left.now 0 any_name) in
    let cell = c.cell_of-cell.result in
    let some = shown told c.args.fields.now c.args.start name cell c.cell_of-cell.ensures.cell in (
      done ++ name ∷ [],
      c.loop-left.invariant.1 ∙ ap (λ names. done ++ names) next ∙ sym (append_assoc done _ _),
      rw (c.push.ensures.items, spread_more cells c.loop-left.gap cell c.cell_of-cell.ensures.gap)
          (cells_more told c.args.fields.now c.args.start done (spread cells c.loop-left.gap) name cell c.loop-left.invariant.2 some),
    )
