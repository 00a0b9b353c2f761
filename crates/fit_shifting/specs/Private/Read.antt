-- Where the items of a file are in the bytes that it was read from.
use Rattle.std.specs.Prelude.{◌≡◌, ℕ, ◌+◌, List, [], ◌++◌, length, map}
use Rattle.fit_grammar.specs.Format.Records.{RecordsAfter}
use Rattle.fit_grammar.specs.Format.File.{FileValue, FileOf}
use Rattle.fit_grammar.specs.Calls.LentItem.{LentItem, item_lent}
use Rattle.fit_shifting.specs.declared.shift.Shift.{Shift}
use Rattle.fit_shifting.specs.Stuck.{stuck_after, stuck_at}
use Rattle.fit_shifting.specs.Private.Row.{IsPassed}

-- the items before the place `at` in the bytes, which are written before the place `place`, can be moved; the items `left` come after them
pub record IsReadTo (bytes : List ℕ) (v : FileValue) (shift : Shift) (at : ℕ) (left : List LentItem)
    : Type 0 where
  pub place : ℕ
  pub passed : IsPassed v place left
  pub stuck : stuck_after shift place left ≡ stuck_at shift v
  pub file : FileOf bytes v
  pub front : List ℕ
  pub rest : List ℕ
  pub joined : file.records ≡ front ++ rest
  pub front_is : RecordsAfter [] front passed.before
  pub rest_is : RecordsAfter passed.before rest (map item_lent left)
  pub place_is : at ≡ length file.header + length front
