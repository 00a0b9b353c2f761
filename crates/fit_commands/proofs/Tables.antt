-- The lines of a table, file after file: for `table --each`.
use Rattle.std.proofs.Common.{◌≡◌, ℕ, ◌+◌, ◌-◌, ◌≤◌, Bool, true, false, List, [], ◌∷◌, ◌++◌, length, get_or, take, drop, map, Option, Ok, refl, sym, ap, subst, ◌∙◌, append_assoc, arith, Global}
use Rattle.std.proofs.lemmas.List.{take_all, length-take, length-drop}
use Rattle.std.specs.Prelude.{String, string_bytes}
use Rattle.fit_table.specs.declared.layout.Layout.{Layout}
use Rattle.fit_commands.specs.Each.{AddsTable, AddsTables, left_out_by}

-- one more
tables_add : (layout : Layout) (held : List ℕ → Option (List ℕ)) (some : List (List ℕ)) (old mid new : Option (List ℕ)) (left_out : ℕ) (name : List ℕ) (added : Bool)
    → AddsTables layout held some old mid left_out → AddsTable layout (held name) name mid new (Ok added)
    → AddsTables layout held (some ++ name ∷ []) old new (left_out + left_out_by added)
tables_add layout held [] old mid new left_out name added are adds = (
  new,
  added,
  0,
  subst (λ (m : Option (List ℕ)). AddsTable layout (held name) name m new (Ok added)) are.0 adds,
  omega (arith, are.1),
  (refl, refl),
)
tables_add layout held (first ∷ some) old mid new left_out name added are adds = (
  are.0,
  are.1,
  are.2 + left_out_by added,
  are.3,
  omega (arith, are.4),
  tables_add layout held some are.0 mid new are.2 name added are.5 adds,
)

pub tables_more : (layout : Layout) (held : List ℕ → Option (List ℕ)) (some : List (List ℕ)) (old mid new : Option (List ℕ)) (left_out more : ℕ) (name : List ℕ) (added : Bool)
    → more ≡ left_out_by added → AddsTables layout held some old mid left_out → AddsTable layout (held name) name mid new (Ok added)
    → AddsTables layout held (some ++ name ∷ []) old new (left_out + more)
tables_more layout held some old mid new left_out more name added is are adds =
    subst (λ (n : ℕ). AddsTables layout held (some ++ name ∷ []) old new (left_out + n)) (sym is)
    (tables_add layout held some old mid new left_out name added are adds)

-- the first of the names that are left
pub rest_first : (rest : List (String Global)) (d : String Global) (name : List ℕ) → 1 ≤ length rest → name ≡ string_bytes (get_or rest 0 d)
    → map string_bytes rest ≡ name ∷ map string_bytes (take (length rest - 1) (drop 1 rest))
rest_first [] d name some is = absurd (omega arith)
rest_first (first ∷ rest) d name some is =
    let less : take (length (first ∷ rest) - 1) rest ≡ rest = take_all (length (first ∷ rest) - 1) rest (omega arith) in
    ap (λ (l : List ℕ). l ∷ map string_bytes rest) (sym is) ∙ ap (λ (l : List (String Global)). name ∷ map string_bytes l) (sym less)

pub names_less : (names some : List (List ℕ)) (rest : List (String Global)) (d : String Global) (name : List ℕ) → 1 ≤ length rest
    → names ≡ some ++ map string_bytes rest → name ≡ string_bytes (get_or rest 0 d)
    → names ≡ (some ++ name ∷ []) ++ map string_bytes (take (length rest - 1) (drop 1 rest))
names_less names some rest d name any names_are is =
    names_are ∙ ap (λ (l : List (List ℕ)). some ++ l) (rest_first rest d name any is)
    ∙ sym (append_assoc some (name ∷ []) (map string_bytes (take (length rest - 1) (drop 1 rest))))

left_out_least : (added : Bool) → left_out_by added ≤ 1
left_out_least true = omega arith
left_out_least false = omega arith

pub left_out_fits : (left_out more most : ℕ) (added : Bool) (rest : List (String Global)) → 1 ≤ length rest
    → left_out + length rest ≤ most → more ≡ left_out_by added → left_out + more + length (take (length rest - 1) (drop 1 rest)) ≤ most
left_out_fits left_out more most added rest some fits is =
    omega (arith, some, fits, is, left_out_least added, length-take (length rest - 1) (drop 1 rest), length-drop 1 rest)
