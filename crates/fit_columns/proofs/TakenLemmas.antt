-- One more message of a walk is taken: for `columns` and `values`.
use Rattle.std.proofs.Common.{◌≡◌, ℕ, ◌+◌, ◌*◌, ◌<◌, ◌≤◌, ℤ, List, [], ◌∷◌, ◌++◌, length, get_or, take, drop, map, sym, ap, ap₂, ◌∙◌, length-append, arith}
use Rattle.fit_grammar.specs.Format.Item.{Item}
use Rattle.fit_grammar.specs.Format.Message.{messages_of}
use Rattle.fit_grammar.specs.Calls.LentItem.{items_lent}
use Rattle.fit_columns.specs.declared.columns.ColumnRows.{ColumnRows}
use Rattle.fit_columns.specs.declared.place.Place.{Place}
use Rattle.fit_columns.specs.declared.values.ValueHead.{ValueHead}
use Rattle.fit_columns.specs.declared.values.ValueRows.{ValueRows}
use Rattle.fit_columns.specs.Columns.{AreColumns, column_of, messages_numbered}
use Rattle.fit_columns.specs.Fields.{fields_here}
use Rattle.fit_columns.specs.Places.{ArePlaces, put_cells, row_cells}
use Rattle.fit_columns.specs.Rows.{Row, rows_of}
use Rattle.fit_columns.specs.Taken.{HoldsColumns, HoldsValues}
use Rattle.fit_columns.specs.Values.{AreHeads, bytes_at, head_at, values_of}
use Rattle.fit_columns.proofs.PlaceLemmas.{sizes}
use Rattle.fit_columns.proofs.RowLemmas.{columns_more}
use Rattle.fit_columns.proofs.ValueLemmas.{heads_more, values_more}
use Rattle.fit_columns.proofs.WalkLemmas.{all_count, all_messages}

pub columns_taken : (old new : ColumnRows) (codes : List ℕ) (rows : List Row) (r : Row) (places : List Place) → HoldsColumns old codes rows →
    ArePlaces (fields_here r.lent.definition) codes places → sizes (fields_here r.lent.definition) ≤ length r.lent.content →
    new.room ≡ old.room → new.row ≡ old.row + 1 → length new.out.now ≡ length old.out.now →
    (old.row < old.room → new.out.now ≡ put_cells old.room old.row 0 (row_cells r.lent.definition.arch r.lent.time places r.lent.content) old.out.now) →
    HoldsColumns new codes (rows ++ r ∷ [])
columns_taken old new codes rows r places held are sized room row long put = record {
  fits = omega (arith, held.fits, ap (λ n. length codes * n) room, long);
  count = omega (arith, row, held.count, length-append rows (r ∷ []));
  columns = λ in_room k some small.
      let inside : old.row < old.room = omega (arith, in_room, row, room) in
      ap₂ (λ (n m : ℕ). take n (drop (k * m) new.out.now)) row room
      ∙ columns_more old.room old.row codes rows r old.out.now new.out.now places k inside held.fits some small are sized (put inside)
      (held.columns (omega (arith, inside)) k some small);
}

pub values_taken : (old new : ValueRows) (codes : List ℕ) (rows : List Row) (r : Row) (heads : List ValueHead) (bytes : List ℕ) →
    HoldsValues old codes rows → heads ≡ map (head_at r.place r.lent.definition r.lent.content) codes →
    bytes ≡ bytes_at codes r.lent.definition r.lent.content → length codes ≤ 128 → new.room ≡ old.room → new.row ≡ old.row + 1 →
    length new.heads.now ≡ length old.heads.now →
    (old.row < old.room → new.heads.now ≡ put_cells old.room old.row 0 heads old.heads.now) → new.len ≡ old.len + length bytes →
    new.len ≤ old.len + 255 * length codes → length new.values.now ≡ length old.values.now →
    (new.len ≤ length old.values.now → take new.len new.values.now ≡ take old.len old.values.now ++ bytes) →
    HoldsValues new codes (rows ++ r ∷ [])
values_taken old new codes rows r heads bytes held are are_bytes few room row long put len most room_for copy =
    let all = values_more codes rows r in record {
      fits = omega (arith, held.fits, ap (λ n. length codes * n) room, long);
      count = omega (arith, row, held.count, length-append rows (r ∷ []));
      heads = λ in_room k some.
          let inside : old.row < old.room = omega (arith, in_room, row, room) in
          let count : length rows ≡ old.row = omega (arith, held.count) in
          let more : length (rows ++ r ∷ []) ≡ old.row + 1 = omega (arith, count, length-append rows (r ∷ [])) in
          ap₂ (λ (n m : ℕ). take n (drop (k * m) new.heads.now)) more room
          ∙ heads_more codes old.room old.row rows r heads old.heads.now new.heads.now k inside held.fits some are (put inside)
          (ap (λ (n : ℕ). take n (drop (k * old.room) old.heads.now)) held.count ∙ held.heads (omega (arith, inside)) k some);
      bound = omega (arith, held.bound, most, few, row);
      len = omega (
        arith,
        len,
        held.len,
        ap length are_bytes,
        ap length all,
        length-append (values_of codes rows) (bytes_at codes r.lent.definition r.lent.content),
      );
      values = λ fits.
          let small : new.len ≤ length old.values.now = omega (arith, fits, room_for) in
          copy small ∙ ap₂ (λ (xs ys : List ℕ). xs ++ ys) (held.values (omega (arith, small, len))) are_bytes ∙ sym all;
    }

-- ---- what was taken in the end

pub columns_are : (it : ColumnRows) (message : ℕ) (items : List Item) (numbers : List ℕ) (room : ℕ) (out : List ℤ) →
    HoldsColumns it numbers (rows_of message (items_lent items)) → ((k : ℕ) → get_or numbers k 0 < 256) → it.room ≡ room → out ≡ it.out.now →
    it.row ≤ room → AreColumns numbers room (messages_numbered message (messages_of items)) out
columns_are it message items numbers room out held small same is in_room k some =
    let count : length (messages_numbered message (messages_of items)) ≡ it.row = omega (arith, all_count message items, held.count) in
    ap₂ (λ (n : ℕ) (xs : List ℤ). take n (drop (k * room) xs)) count is
    ∙ ap (λ (m : ℕ). take it.row (drop (k * m) it.out.now)) (sym same)
    ∙ held.columns (omega (arith, in_room, same)) k some (small k)
    ∙ ap (λ messages. column_of (get_or numbers k 0) messages) (all_messages message items)

pub heads_are : (it : ValueRows) (rows : List Row) (codes : List ℕ) (room : ℕ) (out : List ValueHead) → HoldsValues it codes rows →
    it.room ≡ room → out ≡ it.heads.now → it.row ≤ room → AreHeads codes room rows out
heads_are it rows codes room out held same is in_room k some =
    ap₂ (λ (m : ℕ) (xs : List ValueHead). take (length rows) (drop (k * m) xs)) (sym same) is ∙ held.heads (omega (arith, in_room, same)) k some
