-- What took the messages of a walk.
use Rattle.std.specs.Prelude.{◌≡◌, ℕ, ◌*◌, ◌<◌, ◌≤◌, List, length, take, drop, map, slice_index}
use Rattle.fit_grammar.specs.Calls.LentItem.{message_here}
use Rattle.fit_columns.specs.declared.columns.ColumnRows.{ColumnRows}
use Rattle.fit_columns.specs.declared.values.ValueRows.{ValueRows}
use Rattle.fit_columns.specs.Columns.{column_of}
use Rattle.fit_columns.specs.Rows.{Row}
use Rattle.fit_columns.specs.Values.{AreHeads, values_of}

-- columns that took these messages: each code that is the number of a field has the values of a column
pub record HoldsColumns (it : ColumnRows) (codes : List ℕ) (rows : List Row) : Type 0 where
  pub fits : length codes * it.room ≤ length it.out.now
  pub count : it.row ≡ length rows
  pub columns : it.row ≤ it.room → (k : ℕ) → k < length codes → slice_index codes k < 256
      → take it.row (drop (k * it.room) it.out.now)
      ≡ column_of (slice_index codes k) (map (λ row. message_here row.lent) rows)

-- heads and bytes that took these messages
pub record HoldsValues (it : ValueRows) (codes : List ℕ) (rows : List Row) : Type 0 where
  pub fits : length codes * it.room ≤ length it.heads.now
  pub count : it.row ≡ length rows
  pub heads : it.row ≤ it.room → AreHeads codes it.room rows it.heads.now
  pub bound : it.len ≤ it.row * 32640
  pub len : it.len ≡ length (values_of codes rows)
  pub values : it.len ≤ length it.values.now → take it.len it.values.now ≡ values_of codes rows
