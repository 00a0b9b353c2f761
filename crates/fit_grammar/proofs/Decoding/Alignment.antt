-- Of two rows of items at the front of the same bytes, one is a prefix of the other. For `Fronts`, `Blocked` and `OneValue`.
use Rattle.std.proofs.Common.{◌≡◌, ℕ, List, [], ◌∷◌, ◌++◌, refl, sym, ap, subst, ◌∙◌, append_assoc}
use Rattle.std.proofs.lemmas.List.{append-nil}
use Rattle.fit_grammar.specs.Format.Item.{Item}
use Rattle.fit_grammar.specs.Format.Records.{RecordsAfter, in_force}
use Rattle.fit_grammar.proofs.OneItem.Spelling.{spelling_one}

-- the row of js begins with that of is, and continues with more
pub record GoesOn (before : List Item) (a : List ℕ) (is : List Item) (x b : List ℕ) (js : List Item) (y : List ℕ)
    (more : List Item) : Type 0 where
  pub bytes : List ℕ
  pub items_are : js ≡ is ++ more
  pub bytes_are : b ≡ a ++ bytes
  pub rest_is : x ≡ bytes ++ y
  pub goes_on : RecordsAfter (before ++ is) bytes more

pub data Aligned (before : List Item) (a : List ℕ) (is : List Item) (x b : List ℕ) (js : List Item) (y : List ℕ) : Type 0 where
  longer : (more : List Item) → GoesOn before a is x b js y more → Aligned before a is x b js y
  shorter : (item : Item) (others : List Item) → GoesOn before b js y a is x (item ∷ others) → Aligned before a is x b js y

cons_on : (before : List Item) (i : Item) (own ra : List ℕ) (is : List Item) (x rb : List ℕ) (js : List Item) (y a b : List ℕ)
    (j : Item) (own_b : List ℕ) (more : List Item) → a ≡ own ++ ra → b ≡ own_b ++ rb → own ≡ own_b → i ≡ j
    → GoesOn (before ++ i ∷ []) ra is x rb js y more → GoesOn before a (i ∷ is) x b (j ∷ js) y more
cons_on before i own ra is x rb js y a b j own_b more ea eb eo ei g =
    record {
      bytes = g.bytes;
      items_are = ap (λ (k : Item). k ∷ js) (sym ei) ∙ ap (λ (l : List Item). i ∷ l) g.items_are;
      bytes_are = eb ∙ ap (λ (l : List ℕ). l ++ rb) (sym eo) ∙ ap (λ (l : List ℕ). own ++ l) g.bytes_are
          ∙ sym (append_assoc own ra g.bytes) ∙ ap (λ (l : List ℕ). l ++ g.bytes) (sym ea);
      rest_is = g.rest_is;
      goes_on = subst (λ (l : List Item). RecordsAfter l g.bytes more) (append_assoc before (i ∷ []) is) g.goes_on;
    }

pub aligned : (before : List Item) (a : List ℕ) (is : List Item) (x b : List ℕ) (js : List Item) (y : List ℕ)
    → RecordsAfter before a is → RecordsAfter before b js → a ++ x ≡ b ++ y → Aligned before a is x b js y
aligned before a [] x b js y p q e =
    longer js (record {
      bytes = b;
      items_are = refl;
      bytes_are = ap (λ (l : List ℕ). l ++ b) (sym p);
      rest_is = ap (λ (l : List ℕ). l ++ x) (sym p) ∙ e;
      goes_on = subst (λ (l : List Item). RecordsAfter l b js) (sym (append-nil before)) q;
    })
aligned before a (i ∷ is) x b [] y p q e =
    shorter i is (record {
      bytes = a;
      items_are = refl;
      bytes_are = ap (λ (l : List ℕ). l ++ a) (sym q);
      rest_is = ap (λ (l : List ℕ). l ++ y) (sym q) ∙ sym e;
      goes_on = subst (λ (l : List Item). RecordsAfter l a (i ∷ is)) (sym (append-nil before)) p;
    })
aligned before a (i ∷ is) x b (j ∷ js) y p q e =
    let ea = p.1.joined in
    let eb = q.1.joined in
    let joined : p.1.own ++ (p.0 ++ x) ≡ q.1.own ++ (q.0 ++ y) =
    sym (append_assoc p.1.own p.0 x) ∙ ap (λ (l : List ℕ). l ++ x) (sym ea) ∙ e ∙ ap (λ (l : List ℕ). l ++ y) eb
    ∙ append_assoc q.1.own q.0 y in
    let one = spelling_one (in_force before) i j p.1.own (p.0 ++ x) q.1.own (q.0 ++ y) p.1.spelled q.1.spelled
    p.1.defined q.1.defined joined in
    let later : RecordsAfter (before ++ i ∷ []) q.0 js = subst (λ (k : Item). RecordsAfter (before ++ k ∷ []) q.0 js) (sym one.1) q.2 in
    elim (aligned (before ++ i ∷ []) p.0 is x q.0 js y p.2 later one.2) [
      | longer more g ↦ longer more (cons_on before i p.1.own p.0 is x q.0 js y a b j q.1.own more ea eb one.0 one.1 g)
      | shorter item others g ↦
          shorter item others (cons_on before j q.1.own q.0 js y p.0 is x b a i p.1.own (item ∷ others) eb ea
          (sym one.0) (sym one.1) (subst (λ (k : Item). GoesOn (before ++ k ∷ []) q.0 js y p.0 is x (item ∷ others)) one.1 g))
    ]
