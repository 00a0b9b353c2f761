-- Empty cells, whose commas are put together: for `table` and `named`.
use Rattle.std.proofs.Common.{◌≡◌, ℕ, zero, suc, ◌+◌, List, [], ◌∷◌, ◌++◌, Result, Ok, codes, refl, sym, ap, append-nil, subst, arith}
use Rattle.std.proofs.lemmas.List.{replicate_more}
use Rattle.fit_text.specs.Pen.{Written, Puts}
use Rattle.fit_text.proofs.PenLemmas.{puts_none}
use Rattle.fit_table.specs.Commas.{commas}
use Rattle.fit_table.specs.Tokens.{Token, Text, IsTextOf, PutsTokens}
use Rattle.fit_table.proofs.TokenLemmas.{LeavesTokens, less_tokens, tokens_all, tokens_same, tokens_then}

-- so many empty cells, each after a comma, in front of other tokens
abbrev pub gap_tokens : ℕ → List Token → List Token
gap_tokens zero tokens = tokens
gap_tokens (suc n) tokens = Text (codes ",") ∷ Text [] ∷ gap_tokens n tokens

pub gap_suc : (n : ℕ) (tokens : List Token) → gap_tokens n (Text (codes ",") ∷ Text [] ∷ tokens) ≡ gap_tokens (suc n) tokens
gap_suc zero tokens = refl
gap_suc (suc n) tokens = ap (λ t. Text (codes ",") ∷ Text [] ∷ t) (gap_suc n tokens)

gap_append : (n : ℕ) (a b : List Token) → gap_tokens n (a ++ b) ≡ gap_tokens n a ++ b
gap_append zero a b = refl
gap_append (suc n) a b = ap (λ t. Text (codes ",") ∷ Text [] ∷ t) (gap_append n a b)

gap_text : (n : ℕ) (tokens : List Token) (text : List ℕ) → IsTextOf tokens text → IsTextOf (gap_tokens n tokens) (commas n ++ text)
gap_text zero tokens text is = is
gap_text (suc n) tokens text is =
    (codes ",", commas n ++ text, refl, ([], commas n ++ text, refl, gap_text n tokens text is, refl), refl)

comma_text : (n : ℕ) → IsTextOf (gap_tokens n (Text (codes ",") ∷ [])) (commas (n + 1))
comma_text n =
    subst (λ text. IsTextOf (gap_tokens n (Text (codes ",") ∷ [])) text) (replicate_more n 44)
    (gap_text n (Text (codes ",") ∷ []) (codes ",") (codes ",", [], refl, refl, refl))

end_text : (n : ℕ) → IsTextOf (gap_tokens n []) (commas n)
end_text n = subst (λ text. IsTextOf (gap_tokens n []) text) (append-nil (commas n)) (gap_text n [] [] refl)

-- the commas before a cell that is not empty
pub gap_front : (n : ℕ) (rest : List Token) → gap_tokens n (Text (codes ",") ∷ rest) ≡ gap_tokens n (Text (codes ",") ∷ []) ++ rest
gap_front n rest = gap_append n (Text (codes ",") ∷ []) rest

pub commas_put : {T E : Type 0} {o n : Written} {r : Result T E} (gap : ℕ) → Puts o n r (commas (gap + 1)) →
    PutsTokens o n r (gap_tokens gap (Text (codes ",") ∷ []))
commas_put gap h = tokens_all (commas (gap + 1)) (comma_text gap) h

-- the commas before a cell that is not empty, and none before the first
abbrev pub front_tokens : ℕ → List Token
front_tokens zero = Text [] ∷ []
front_tokens (suc n) = gap_tokens n (Text (codes ",") ∷ [])

pub front_put : {T E : Type 0} {o n : Written} {r : Result T E} (count : ℕ) → Puts o n r (commas count) → PutsTokens o n r (front_tokens count)
front_put zero h = tokens_all [] ([], [], refl, refl, refl) h
front_put (suc count) h =
    let one : count + 1 ≡ suc count = omega arith in
    tokens_all (commas (suc count)) (subst (λ n. IsTextOf (gap_tokens count (Text (codes ",") ∷ [])) (commas n)) one (comma_text count)) h

-- the commas at the end
pub commas_last : {T E : Type 0} {o m n : Written} {r : Result T E} {tokens : List Token} (gap : ℕ) →
    LeavesTokens o m tokens (gap_tokens gap []) → Puts m n r (commas gap) → PutsTokens o n r tokens
commas_last gap h k =
    let before : PutsTokens {E = Unit {0}} _ _ (Ok tt) h.done = tokens_all h.text h.is h.put in
    tokens_same (tokens_then before (tokens_all (commas gap) (end_text gap) k)) (sym h.split)

pub left_same : {o n : Written} {tokens rest other : List Token} → LeavesTokens o n tokens rest → rest ≡ other → LeavesTokens o n tokens other
left_same {o = o} {n = n} {tokens = tokens} h e = subst (λ t. LeavesTokens o n tokens t) e h

-- tokens without text need not be put
pub less_none : {o n : Written} {tokens : List Token} (rest : List Token) → LeavesTokens o n tokens (Text [] ∷ Text [] ∷ rest) →
    LeavesTokens o n tokens rest
less_none {n = n} rest h =
    let none : PutsTokens {T = Unit {0}} {E = Unit {0}} n n (Ok tt) (Text [] ∷ Text [] ∷ []) =
    tokens_all [] ([], [], refl, ([], [], refl, refl, refl), refl) (puts_none n tt) in
    less_tokens rest h none refl
