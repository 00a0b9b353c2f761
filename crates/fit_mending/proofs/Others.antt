-- What is said of the pieces so far, with what is said of the rest, is said of all.
use Rattle.std.proofs.Common.{◌≡◌, ℕ, ◌-◌, ◌≤◌, List, [], ◌∷◌, ◌++◌, length, take, drop, get_or, Option, refl, sym, subst, append_assoc, append-nil, arith}
use Rattle.std.proofs.lemmas.List.{take_all}
use Rattle.fit_grammar.specs.declared.definition.Definition.{Definition}
use Rattle.fit_grammar.specs.Format.Item.{Item}
use Rattle.fit_grammar.specs.Format.Records.{in_force}
use Rattle.fit_mending.specs.declared.pieces.Piece.{Piece}
use Rattle.fit_mending.specs.Pieces.{AreItems, ArePieces, AreWithin, piece_bytes}
use Rattle.fit_mending.specs.Others.{AreOthers, IsOther}

pub record HasSaid (bytes : List ℕ) (own : Option ℕ) (known : List Item) (pieces rest : List Piece) (others : List (Option ℕ))
    (definition_for : ℕ → Option Definition) : Type 0 where
  pub before : List Item
  pub from : ℕ
  pub to : ℕ
  pub items : List Item
  pub in_force_are : definition_for ≡ in_force before
  pub left : ArePieces bytes from to before rest items
  pub said : (more : List (Option ℕ)) → AreOthers bytes own before rest more → AreOthers bytes own known pieces (others ++ more)

-- one more
pub said_more : (bytes : List ℕ) (own : Option ℕ) (known : List Item) (pieces rest : List Piece) (piece : Piece) (others : List (Option ℕ)) (other : Option ℕ)
    (f g : ℕ → Option Definition) → HasSaid bytes own known pieces (piece ∷ rest) others f
    → ((before items : List Item) → f ≡ in_force before → AreItems piece.kept before (piece_bytes bytes piece) items
    → IsOther piece.kept before own (piece_bytes bytes piece) other × (g ≡ in_force (before ++ items)))
    → HasSaid bytes own known pieces rest (others ++ other ∷ []) g
said_more bytes own known pieces rest piece others other f g has is =
    let items = has.left.0 in
    let one = is has.before items has.in_force_are has.left.3 in
    record {
      before = has.before ++ items;
      from = piece.end;
      to = has.to;
      items = has.left.1;
      in_force_are = one.1;
      left = has.left.5;
      said = λ more are.
          subst (AreOthers bytes own known pieces) (sym (append_assoc others (other ∷ []) more))
          (has.said (other ∷ more) (other, more, items, refl, has.left.3, one.0, are));
    }

pub all_said : (bytes : List ℕ) (own : Option ℕ) (known : List Item) (pieces rest : List Piece) (others : List (Option ℕ)) (f : ℕ → Option Definition)
    → HasSaid bytes own known pieces rest others f → rest ≡ [] → AreOthers bytes own known pieces others
all_said bytes own known pieces rest others f has none =
    subst (AreOthers bytes own known pieces) (append-nil others)
    (has.said [] (subst (λ (l : List Piece). AreOthers bytes own has.before l []) (sym none) refl))

-- the same of the first piece that is left
abbrev pub less : List Piece → List Piece
less pieces = take (length pieces - 1) (drop 1 pieces)

less_is : (piece : Piece) (pieces : List Piece) → less (piece ∷ pieces) ≡ pieces
less_is piece pieces = take_all (length (piece ∷ pieces) - 1) pieces (omega arith)

pub said_first : (bytes : List ℕ) (own : Option ℕ) (known : List Item) (pieces rest : List Piece) (others : List (Option ℕ)) (other : Option ℕ)
    (f g : ℕ → Option Definition) (d : Piece) → 1 ≤ length rest → HasSaid bytes own known pieces rest others f
    → ((before items : List Item) → f ≡ in_force before → AreItems (get_or rest 0 d).kept before (piece_bytes bytes (get_or rest 0 d)) items
    → IsOther (get_or rest 0 d).kept before own (piece_bytes bytes (get_or rest 0 d)) other × (g ≡ in_force (before ++ items)))
    → HasSaid bytes own known pieces (less rest) (others ++ other ∷ []) g
said_first bytes own known pieces [] others other f g d some has is = absurd (omega arith)
said_first bytes own known pieces (piece ∷ rest) others other f g d some has is =
    subst (λ (l : List Piece). HasSaid bytes own known pieces l (others ++ other ∷ []) g) (sym (less_is piece rest))
    (said_more bytes own known pieces rest piece others other f g has is)

pub less_within : (bytes : List ℕ) (rest : List Piece) → 1 ≤ length rest → AreWithin bytes rest → AreWithin bytes (less rest)
less_within bytes [] some are = absurd (omega arith)
less_within bytes (piece ∷ rest) some are = subst (AreWithin bytes) (sym (less_is piece rest)) are.2
