-- How texts that were handed to a writer one after another join, and what a loop that writes keeps: for `put`, the encoder, and
-- every crate that prints.
use Rattle.std.proofs.Common.{◌≡◌, ℕ, List, [], ◌++◌, Option, Some, None, Result, Ok, Err, refl, sym, ap, ◌∙◌, append_assoc, subst, ◌+◌, ◌<◌, ◌≤◌, length, get_or, drop}
use Rattle.std.proofs.lemmas.List.{append-nil, at_drop_more, at_drop_all}
use Rattle.std.specs.List.{flat_map}
use Rattle.std.specs.Result.{IsErr}
use Rattle.std.specs.Io.KnownBytes.{Appends}
use Rattle.fit_grammar.specs.Calls.Output.{AppendsBeginning, WritesText}

appends-none : (o : Option (List ℕ)) → Appends o o []
appends-none None = tt
appends-none (Some xs) = sym (append-nil xs)

appends-join : (o m n : Option (List ℕ)) (a b : List ℕ) → Appends o m a → Appends m n b → Appends o n (a ++ b)
appends-join None m n a b h k = tt
appends-join (Some xs) None n a b h k = absurd h
appends-join (Some xs) (Some ys) None a b h k = absurd k
appends-join (Some xs) (Some ys) (Some zs) a b h k = k ∙ ap (λ t. t ++ b) h ∙ append_assoc xs a b

begins-more : (o n : Option (List ℕ)) (a b : List ℕ) → AppendsBeginning o n a → AppendsBeginning o n (a ++ b)
begins-more o n a b h = record {
  part = h.part;
  rest = h.rest ++ b;
  split = ap (λ t. t ++ b) h.split ∙ append_assoc h.part h.rest b;
  appended = h.appended;
}

begins-after : (o m n : Option (List ℕ)) (a b : List ℕ) → Appends o m a → AppendsBeginning m n b → AppendsBeginning o n (a ++ b)
begins-after o m n a b h k = record {
  part = a ++ k.part;
  rest = k.rest;
  split = ap (λ t. a ++ t) k.split ∙ sym (append_assoc a k.part k.rest);
  appended = appends-join o m n a k.part h k.appended;
}

writes-after : {T E : Type 0} (o m n : Option (List ℕ)) (r : Result T E) (a b : List ℕ) → Appends o m a
    → WritesText m n r b → WritesText o n r (a ++ b)
writes-after o m n (Ok x) a b h k = record { all = appends-join o m n a b h k.all; beginning = tt }
writes-after o m n (Err e) a b h k = record { all = tt; beginning = begins-after o m n a b h k.beginning }

-- one text was written, and then another
pub then_writes : {S T E F : Type 0} {o m n : Option (List ℕ)} {x : S} {r : Result T E} {a b : List ℕ} →
    WritesText {T = S} {E = F} o m (Ok x) a → WritesText m n r b → WritesText o n r (a ++ b)
then_writes {o = o} {m = m} {n = n} {r = r} {a = a} {b = b} h k = writes-after o m n r a b h.all k

writes-beginning : {T E : Type 0} (o n : Option (List ℕ)) (r : Result T E) (text : List ℕ) → IsErr r
    → AppendsBeginning o n text → WritesText o n r text
writes-beginning o n (Ok x) text bad h = cc
writes-beginning o n (Err e) text bad h = record { all = tt; beginning = h }

-- if a text was not written, none after it was
pub stops_before : {S T E F : Type 0} {o n : Option (List ℕ)} {e : E} {r : Result T F} {a : List ℕ} →
    IsErr r → WritesText {T = S} {E = E} o n (Err e) a → (b : List ℕ) → WritesText o n r (a ++ b)
stops_before {o = o} {n = n} {r = r} {a = a} bad h b = writes-beginning o n r (a ++ b) bad (begins-more o n a b h.beginning)

-- a text may be replaced by an equal one
pub writes_same : {T E : Type 0} {o n : Option (List ℕ)} {r : Result T E} {a b : List ℕ} → WritesText o n r a → a ≡ b → WritesText o n r b
writes_same {o = o} {n = n} {r = r} h e = let P : List ℕ → Type 0 = λ t. WritesText o n r t in subst P e h

-- a text that was written, whatever is returned with it
pub text_ok : {T E S F : Type 0} {o n : Option (List ℕ)} {x : T} {y : S} {text : List ℕ}
    → WritesText {T = T} {E = E} o n (Ok x) text → WritesText {T = S} {E = F} o n (Ok y) text
text_ok h = record { all = h.all; beginning = tt }

-- a fault may have another name
pub writes_off : {T E S F : Type 0} {o n : Option (List ℕ)} {e : E} {f : F} {text : List ℕ}
    → WritesText {T = T} {E = E} o n (Err e) text → WritesText {T = S} {E = F} o n (Err f) text
writes_off h = record { all = tt; beginning = h.beginning }

-- of the empty text, all is written at the start
pub writes_none : {T E : Type 0} (o : Option (List ℕ)) (x : T) → WritesText {E = E} o o (Ok x) []
writes_none o x = record { all = appends-none o; beginning = tt }

-- what was written so far of a text, and the rest
pub record Leaves (old now : Option (List ℕ)) (text rest : List ℕ) : Type 0 where
  pub done : List ℕ
  pub split : text ≡ done ++ rest
  pub appended : Appends old now done

-- at first all of it is left
pub leaves_all : (o : Option (List ℕ)) (text : List ℕ) → Leaves o o text text
leaves_all o text = record { done = []; split = refl; appended = appends-none o }

-- the writer took a part of what is left
pub leaves_rest : {o m n : Option (List ℕ)} {text rest : List ℕ} (part more : List ℕ) →
    Leaves o m text rest → Appends m n part → rest ≡ part ++ more → Leaves o n text more
leaves_rest {o = o} {m = m} {n = n} part more h k e = record {
  done = h.done ++ part;
  split = h.split ∙ ap (λ t. h.done ++ t) e ∙ sym (append_assoc h.done part more);
  appended = appends-join o m n h.done part h.appended k;
}

-- a part of what is left was written
pub leaves_less : {T E : Type 0} {o m n : Option (List ℕ)} {x : T} {text rest part : List ℕ} (more : List ℕ) →
    Leaves o m text rest → WritesText {E = E} m n (Ok x) part → rest ≡ part ++ more → Leaves o n text more
leaves_less {part = part} more h k e = leaves_rest part more h k.all e

-- at the end nothing is left
pub leaves_none : {T E : Type 0} {o n : Option (List ℕ)} {text : List ℕ} (x : T) → Leaves o n text [] → WritesText {E = E} o n (Ok x) text
leaves_none {o = o} {n = n} {text = text} x h =
    let e : text ≡ h.done = h.split ∙ append-nil h.done in
    let P : List ℕ → Type 0 = λ t. Appends o n t in
    record { all = subst P (sym e) h.appended; beginning = tt }

-- a part of what is left was not written
pub leaves_off : {T S E F : Type 0} {o m n : Option (List ℕ)} {e : E} {r : Result T F} {text rest part : List ℕ} (more : List ℕ) →
    IsErr r → Leaves o m text rest → WritesText {T = S} {E = E} m n (Err e) part → rest ≡ part ++ more → WritesText o n r text
leaves_off {o = o} {m = m} {n = n} {r = r} {text = text} {part = part} more bad h k e =
    let split : text ≡ h.done ++ (part ++ more) = h.split ∙ ap (λ t. h.done ++ t) e in
    let P : List ℕ → Type 0 = λ t. AppendsBeginning o n t in
    writes-beginning o n r text bad (subst P (sym split)
    (begins-after o m n h.done (part ++ more) h.appended (begins-more m n part more k.beginning)))

-- ---- a loop that writes a text for each number of a list

part-drop : (f : ℕ → List ℕ) (xs : List ℕ) (i : ℕ) (part : List ℕ) → i < length xs → part ≡ f (get_or xs i 0) →
    flat_map f (drop i xs) ≡ part ++ flat_map f (drop (i + 1) xs)
part-drop f xs i part lt e =
    at_drop_more (flat_map f) xs i 0 lt ∙ ap (λ t. t ++ flat_map f (drop (i + 1) xs)) (sym e)

pub each_next : {T E : Type 0} {o m n : Option (List ℕ)} {x : T} {text part : List ℕ} (f : ℕ → List ℕ) (xs : List ℕ) (i : ℕ) →
    Leaves o m text (flat_map f (drop i xs)) → WritesText {E = E} m n (Ok x) part → i < length xs → part ≡ f (get_or xs i 0) →
    Leaves o n text (flat_map f (drop (i + 1) xs))
each_next {part = part} f xs i h k lt e = leaves_less _ h k (part-drop f xs i part lt e)

pub each_off : {T S E F : Type 0} {o m n : Option (List ℕ)} {d : E} {r : Result T F} {text part : List ℕ} (f : ℕ → List ℕ)
    (xs : List ℕ) (i : ℕ) →
    IsErr r → Leaves o m text (flat_map f (drop i xs)) → WritesText {T = S} {E = E} m n (Err d) part → i < length xs
    → part ≡ f (get_or xs i 0) →
    WritesText o n r text
each_off {part = part} f xs i bad h k lt e = leaves_off _ bad h k (part-drop f xs i part lt e)

pub each_done : {T E : Type 0} {o n : Option (List ℕ)} {text : List ℕ} (f : ℕ → List ℕ) (xs : List ℕ) (i : ℕ) (x : T) →
    Leaves o n text (flat_map f (drop i xs)) → length xs ≤ i → WritesText {E = E} o n (Ok x) text
each_done {o = o} {n = n} {text = text} f xs i x h le =
    let e : flat_map f (drop i xs) ≡ [] = at_drop_all (flat_map f) xs i le in
    let P : List ℕ → Type 0 = λ t. Leaves o n text t in
    leaves_none x (subst P e h)
