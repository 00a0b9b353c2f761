use Rattle.std.proofs.Common.{◌*◌, ◌+◌, ◌++◌, ◌∙◌, length, take, ap, arith}
use Rattle.fit_columns.specs.declared.values.ValueRows.{ValueRows}
use Rattle.fit_columns.specs.Rows.{row_of}
use Rattle.fit_columns.specs.Values.{places_bytes}
use Rattle.fit_columns.proofs.TakenLemmas.{values_taken}
use Rattle.fit_columns.proofs.ValueLemmas.{shown}
use Rattle.fit_columns.proofs.values.ValueRowsTakesRows.take.Goals as goal
use Rattle.fit_columns.proofs.values.ValueRowsTakesRows.take.Goals.{then-self, else-self}

pub put_heads-requires-clause-fits : goal.put_heads-requires-clause-fits
put_heads-requires-clause-fits c =
    let own = shown c.requires.0 c.args.message.now.content.now _ _ _ c.requires.2 c.as_slice-places.ensures.value c.args.message.now.whole in
    omega (arith, ap (λ n. n * c.args.self.now.room) own.many, c.requires.3.fits)

pub put_bytes-self-requires-clause-inside : goal.put_bytes-self-requires-clause-inside
put_bytes-self-requires-clause-inside c =
    let own = shown c.requires.0 c.args.message.now.content.now _ _ _ c.requires.2 c.as_slice-places.ensures.value c.args.message.now.whole in
    own.inside

pub returns-clause-taken : goal.returns-clause-taken
returns-clause-taken c = λ codes rows plan held.
    let m = c.args.message.now in
    let own = shown codes m.content.now _ _ _ plan c.as_slice-places.ensures.value m.whole in
    let r = row_of c.args.place c.args.time m in
    let places = c.as_slice-places.result.now in
    let put = c.put_bytes-self.ensures in
    elim c.if-self.branch [
      | then-self w ↦
          values_taken c.args.self.now _ codes rows r _ _ held (own.heads c.args.place) own.bytes
          (omega (arith, own.many, c.as_slice-places.ensures.fits))
          (ap (λ (it : ValueRows). it.room) w.self-is)
          (ap (λ (it : ValueRows). it.row + 1) w.self-is)
          (ap (λ (it : ValueRows). length it.heads.now) w.self-is ∙ w.put_heads.auto.heads)
          (λ _. ap (λ (it : ValueRows). it.heads.now) w.self-is ∙ w.put_heads.ensures)
          (put.len ∙ ap (λ (it : ValueRows). it.len + length (places_bytes places m.content.now)) w.self-is)
          (omega (arith, put.most, ap (λ (it : ValueRows). it.len) w.self-is, own.many))
          (c.put_bytes-self.auto.values ∙ ap (λ (it : ValueRows). length it.values.now) w.self-is)
          (λ fits. put.values (omega (arith, fits, ap (λ (it : ValueRows). length it.values.now) w.self-is))
          ∙ ap (λ (it : ValueRows). take it.len it.values.now ++ places_bytes places m.content.now) w.self-is)
      | else-self w ↦
          values_taken c.args.self.now _ codes rows r _ _ held (own.heads c.args.place) own.bytes
          (omega (arith, own.many, c.as_slice-places.ensures.fits))
          (ap (λ (it : ValueRows). it.room) w.self-is)
          (ap (λ (it : ValueRows). it.row + 1) w.self-is)
          (ap (λ (it : ValueRows). length it.heads.now) w.self-is)
          (λ inside. absurd (omega (arith, inside, w.if-self.false)))
          (put.len ∙ ap (λ (it : ValueRows). it.len + length (places_bytes places m.content.now)) w.self-is)
          (omega (arith, put.most, ap (λ (it : ValueRows). it.len) w.self-is, own.many))
          (c.put_bytes-self.auto.values ∙ ap (λ (it : ValueRows). length it.values.now) w.self-is)
          (λ fits. put.values (omega (arith, fits, ap (λ (it : ValueRows). length it.values.now) w.self-is))
          ∙ ap (λ (it : ValueRows). take it.len it.values.now ++ places_bytes places m.content.now) w.self-is)
    ]
