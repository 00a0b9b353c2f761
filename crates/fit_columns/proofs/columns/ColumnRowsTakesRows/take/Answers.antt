use Rattle.std.proofs.Common.{◌*◌, ◌∙◌, refl, ap, arith}
use Rattle.fit_columns.specs.Places.{put_cells, row_cells}
use Rattle.fit_columns.specs.Rows.{row_of}
use Rattle.fit_columns.proofs.TakenLemmas.{columns_taken}
use Rattle.fit_columns.proofs.ValueLemmas.{shown}
use Rattle.fit_columns.proofs.columns.ColumnRowsTakesRows.take.Goals as goal
use Rattle.fit_columns.proofs.columns.ColumnRowsTakesRows.take.Goals.{then-self, else-self}

pub put_row-requires-clause-fits : goal.put_row-requires-clause-fits
put_row-requires-clause-fits c =
    let own = shown c.requires.0 c.args.message.now.content.now _ _ _ c.requires.2 c.as_slice.ensures.value c.args.message.now.whole in
    omega (arith, ap (λ n. n * c.args.self.now.room) own.many, c.requires.3.fits)

pub put_row-requires-clause-inside : goal.put_row-requires-clause-inside
put_row-requires-clause-inside c =
    let own = shown c.requires.0 c.args.message.now.content.now _ _ _ c.requires.2 c.as_slice.ensures.value c.args.message.now.whole in
    own.inside

pub returns-clause-taken : goal.returns-clause-taken
returns-clause-taken c = λ codes rows plan held.
    let m = c.args.message.now in
    elim c.if-self.branch [
      | then-self w ↦
          let own = shown codes m.content.now _ _ _ plan w.as_slice.ensures.value m.whole in
          rw w.self-is
          (columns_taken c.args.self.now _ codes rows (row_of c.args.place c.args.time m) _ held own.are own.fits refl refl w.put_row.auto.out
          (λ _. w.put_row.ensures
          ∙ ap (λ arch. put_cells c.args.self.now.room c.args.self.now.row 0 (row_cells arch c.args.time w.as_slice.result.now m.content.now) c.args.self.now.out.now)
          plan.arch))
      | else-self w ↦
          let own = shown codes m.content.now _ _ c.args.plan.now.places.items plan refl m.whole in
          rw w.self-is
          (columns_taken c.args.self.now _ codes rows (row_of c.args.place c.args.time m) _ held own.are own.fits refl refl refl
          (λ inside. absurd (omega (arith, inside, w.if-self.false))))
    ]
