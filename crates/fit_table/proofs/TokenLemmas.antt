-- How texts with floats in them join, and what a loop that puts them keeps.
use Rattle.std.proofs.Common.{◌≡◌, ℕ, List, [], ◌∷◌, ◌++◌, Result, Ok, Err, OnOk, refl, sym, ap, ◌∙◌, append_assoc, append-nil, subst}
use Rattle.std.specs.Result.{IsErr}
use Rattle.fit_text.specs.Pen.{Written, Puts}
use Rattle.fit_text.proofs.PenLemmas.{puts_then, puts_stop, puts_same, puts_none, puts_written}
use Rattle.fit_table.specs.Tokens.{Token, Text, IsTextOf, PutsTokens, WritesTokens}

-- ---- texts one after another

pub text_then : (a b : List Token) (s t : List ℕ) → IsTextOf a s → IsTextOf b t → IsTextOf (a ++ b) (s ++ t)
text_then [] b s t h k = let P : List ℕ → Type 0 = λ u. IsTextOf b (u ++ t) in subst P (sym h) k
text_then (token ∷ a) b s t h k =
    (h.0, h.1 ++ t, h.2, text_then a b h.1 t h.3 k, ap (λ u. u ++ t) h.4 ∙ append_assoc h.0 h.1 t)

pub text_of_one : (text : List ℕ) → IsTextOf (Text text ∷ []) text
text_of_one text = (text, [], refl, refl, sym (append-nil text))

on_ok : {T E : Type 0} {P : Type 0} (r : Result T E) → P → OnOk r P
on_ok (Ok x) h = h
on_ok (Err x) h = tt

on_err : {T E : Type 0} (P : Type 0) (r : Result T E) → IsErr r → OnOk r P
on_err P (Ok x) bad = cc
on_err P (Err x) bad = tt

-- ---- what is put one after another

-- all of the tokens have this text, which was put
pub tokens_all : {T E : Type 0} {o n : Written} {r : Result T E} {tokens : List Token} (text : List ℕ) → IsTextOf tokens text → Puts o n r text →
    PutsTokens o n r tokens
tokens_all {r = r} {tokens = tokens} text is h = record {
  front = tokens;
  back = [];
  split = sym (append-nil tokens);
  whole = on_ok r refl;
  text = text;
  is = is;
  puts = h;
}

-- a text was put
pub tokens_text : {T E : Type 0} {o n : Written} {r : Result T E} {text : List ℕ} → Puts o n r text → PutsTokens o n r (Text text ∷ [])
tokens_text {text = text} h = tokens_all text (text_of_one text) h

-- at Ok all of the tokens have a text that was put
pub tokens_done : {T E : Type 0} {o n : Written} {x : T} {tokens : List Token} → PutsTokens {E = E} o n (Ok x) tokens →
    (text : List ℕ) × IsTextOf tokens text × Puts {E = E} o n (Ok x) text
tokens_done {tokens = tokens} h =
    let all : h.front ≡ tokens = sym (h.split ∙ ap (λ t. h.front ++ t) h.whole ∙ append-nil h.front) in
    let P : List Token → Type 0 = λ t. IsTextOf t h.text in
    (h.text, subst P all h.is, h.puts)

pub tokens_then : {S T E F : Type 0} {o m n : Written} {x : S} {r : Result T E} {a b : List Token} →
    PutsTokens {T = S} {E = F} o m (Ok x) a → PutsTokens m n r b → PutsTokens o n r (a ++ b)
tokens_then {a = a} h k =
    let d = tokens_done h in record {
      front = a ++ k.front;
      back = k.back;
      split = ap (λ t. a ++ t) k.split ∙ sym (append_assoc a k.front k.back);
      whole = k.whole;
      text = d.0 ++ k.text;
      is = text_then a k.front d.0 k.text d.1 k.is;
      puts = puts_then d.2 k.puts;
    }

pub tokens_stop : {S T E F : Type 0} {o n : Written} {e : E} {r : Result T F} {a : List Token} →
    IsErr r → PutsTokens {T = S} {E = E} o n (Err e) a → (b : List Token) → PutsTokens o n r (a ++ b)
tokens_stop {r = r} bad h b = record {
  front = h.front;
  back = h.back ++ b;
  split = ap (λ t. t ++ b) h.split ∙ append_assoc h.front h.back b;
  whole = on_err _ r bad;
  text = h.text;
  is = h.is;
  puts = puts_same (puts_stop bad h.puts []) (append-nil h.text);
}

pub tokens_same : {T E : Type 0} {o n : Written} {r : Result T E} {a b : List Token} → PutsTokens o n r a → a ≡ b → PutsTokens o n r b
tokens_same {o = o} {n = n} {r = r} h e = let P : List Token → Type 0 = λ t. PutsTokens o n r t in subst P e h

-- the tokens were put, and then no text
pub tokens_nothing : {S T E F : Type 0} {o m n : Written} {x : S} {r : Result T E} {a : List Token} →
    PutsTokens {T = S} {E = F} o m (Ok x) a → Puts m n r [] → PutsTokens o n r a
tokens_nothing h k = let d = tokens_done h in tokens_all d.0 d.1 (puts_same (puts_then d.2 k) (append-nil d.0))

-- a pen that began with no text waiting and ends so handed over all text that was put
pub tokens_written : {T E : Type 0} (o n : Written) (r : Result T E) (tokens : List Token) → o.waiting ≡ [] → OnOk r (n.waiting ≡ []) →
    PutsTokens o n r tokens → WritesTokens o.held n.held r tokens
tokens_written o n r tokens e f h = record {
  front = h.front;
  back = h.back;
  split = h.split;
  whole = h.whole;
  text = h.text;
  is = h.is;
  writes = puts_written o n r h.text e f h.puts;
}

-- ---- a loop that puts tokens

-- the tokens that were put so far, and the rest
pub record LeavesTokens (old now : Written) (tokens rest : List Token) : Type 0 where
  pub done : List Token
  pub split : tokens ≡ done ++ rest
  pub text : List ℕ
  pub is : IsTextOf done text
  pub put : Puts {T = Unit {0}} {E = Unit {0}} old now (Ok tt) text

-- at first all are left
pub begin_tokens : (o : Written) (tokens : List Token) → LeavesTokens o o tokens tokens
begin_tokens o tokens = record { done = []; split = refl; text = []; is = refl; put = puts_none o tt }

other_ok : {S T E F : Type 0} {o n : Written} {x : S} (y : T) {text : List ℕ} → Puts {T = S} {E = E} o n (Ok x) text →
    Puts {T = T} {E = F} o n (Ok y) text
other_ok y h = record { same = h.same; all = h.all; beginning = tt }

-- some of the rest were put
pub less_tokens : {T E : Type 0} {o m n : Written} {x : T} {tokens rest part : List Token} (more : List Token) →
    LeavesTokens o m tokens rest → PutsTokens {E = E} m n (Ok x) part → rest ≡ part ++ more → LeavesTokens o n tokens more
less_tokens {part = part} more h k e =
    let d = tokens_done k in record {
      done = h.done ++ part;
      split = h.split ∙ ap (λ t. h.done ++ t) e ∙ sym (append_assoc h.done part more);
      text = h.text ++ d.0;
      is = text_then h.done part h.text d.0 h.is d.1;
      put = puts_then h.put (other_ok tt d.2);
    }

-- at last none are left
pub no_tokens : {T E : Type 0} {o n : Written} {tokens : List Token} (x : T) → LeavesTokens o n tokens [] → PutsTokens {E = E} o n (Ok x) tokens
no_tokens {tokens = tokens} x h =
    let all : h.done ≡ tokens = sym (h.split ∙ append-nil h.done) in
    let P : List Token → Type 0 = λ t. IsTextOf t h.text in
    tokens_all h.text (subst P all h.is) (other_ok x h.put)

-- some of the rest were not put
pub off_tokens : {T S E F : Type 0} {o m n : Written} {e : E} {r : Result T F} {tokens rest part : List Token} (more : List Token) →
    IsErr r → LeavesTokens o m tokens rest → PutsTokens {T = S} {E = E} m n (Err e) part → rest ≡ part ++ more → PutsTokens o n r tokens
off_tokens {part = part} more bad h k e =
    let before : PutsTokens {E = Unit {0}} _ _ (Ok tt) h.done = tokens_all h.text h.is h.put in
    tokens_same (tokens_then before (tokens_stop bad k more)) (sym (h.split ∙ ap (λ t. h.done ++ t) e))
