-- The items of a file that are passed over: for `find_stuck` and `shift_file`.
use Rattle.std.proofs.Common.{◌≡◌, ℕ, ◌+◌, List, [], ◌∷◌, Bool, true, false, Option, Some, None, refl, sym, ap, if◌then◌else◌}
use Rattle.std.specs.Prelude.{not}
use Rattle.std.specs.List.{AllByRecursion}
use Rattle.std.proofs.lemmas.Option.{none-some}
use Rattle.fit_grammar.specs.Format.Item.{item_size}
use Rattle.fit_grammar.specs.Calls.LentItem.{LentItem, DefinesHere, DataHere, item_lent, message_here, messages_in}
use Rattle.fit_shifting.specs.declared.shift.Shift.{Shift}
use Rattle.fit_shifting.specs.Moved.{can_move}
use Rattle.fit_shifting.specs.Stuck.{is_stuck, stuck_after}

-- the first that is stuck is not this one, or it is
pub stuck_later : (shift : Shift) (place : ℕ) (item : LentItem) (left : List LentItem) → is_stuck shift item ≡ false
    → stuck_after shift (place + item_size (item_lent item)) left ≡ stuck_after shift place (item ∷ left)
stuck_later shift place item left can =
    sym (ap (λ (b : Bool). if b then Some place else stuck_after shift (place + item_size (item_lent item)) left) can)

pub stuck_here : (shift : Shift) (place : ℕ) (item : LentItem) (left : List LentItem) → is_stuck shift item ≡ true
    → stuck_after shift place (item ∷ left) ≡ Some place
stuck_here shift place item left is =
    ap (λ (b : Bool). if b then Some place else stuck_after shift (place + item_size (item_lent item)) left) is

-- ---- where none is stuck

free_first : (place : ℕ) (after : Option ℕ) (stuck : Bool) → (if stuck then Some place else after) ≡ None → (stuck ≡ false) × (after ≡ None)
free_first place after true none = absurd (none-some place (sym none))
free_first place after false none = (refl, none)

free_message : (can : Bool) → not can ≡ false → can ≡ true
free_message true e = refl
free_message false e = cc

pub none_stuck : (shift : Shift) (place : ℕ) (items : List LentItem) → stuck_after shift place items ≡ None
    → AllByRecursion (λ m. can_move shift m ≡ true) (messages_in items)
none_stuck shift place [] none = tt
none_stuck shift place (DefinesHere d ∷ items) none =
    none_stuck shift (place + item_size (item_lent (DefinesHere d))) items none
none_stuck shift place (DataHere m ∷ items) none =
    let free = free_first place (stuck_after shift (place + item_size (item_lent (DataHere m))) items) (is_stuck shift (DataHere m)) none in (
      free_message (can_move shift (message_here m)) free.0,
      none_stuck shift (place + item_size (item_lent (DataHere m))) items free.1,
    )
