-- How texts that a pen puts one after another join, what a loop that puts text keeps, and what a pen's writer
-- holds at the end: for `writing` and all that shows a file.
use Rattle.std.proofs.Common.{◌≡◌, ℕ, zero, suc, ◌+◌, ◌-◌, ◌<◌, ◌≤◌, List, [], ◌∷◌, ◌++◌, length, get_or, take, drop, Option, Result, Ok, Err, OnOk, refl, sym, ap, ◌∙◌, append_assoc, append-nil, length-append, length-take-le, take-take, subst, arith}
use Rattle.std.proofs.KnownBytes.{Appends-trans, Appends-nil}
use Rattle.std.proofs.lemmas.List.{at_drop_more, at_drop_all}
use Rattle.std.proofs.lemmas.Slice.{take-put_mid}
use Rattle.std.proofs.Math.Seq.{take-append-add}
use borrow.Rule.Slice.PartMut.{put_mid}
use Rattle.std.specs.Io.KnownBytes.{Appends}
use Rattle.std.specs.List.{flat_map}
use Rattle.std.specs.Result.{IsErr}
use Rattle.fit_grammar.specs.Calls.Output.{AppendsBeginning, WritesText}
use Rattle.fit_text.specs.Plan.{inner}
use Rattle.fit_text.specs.Pen.{Written, Continues, Puts, Adds, Places}

-- ---- one text after another

pub continues_none : (o : Written) → Continues o o []
continues_none o = record { handed = []; split = append-nil o.waiting; appended = Appends-nil o.held }

pub continues_then : (o m n : Written) (a b : List ℕ) → Continues o m a → Continues m n b → Continues o n (a ++ b)
continues_then o m n a b h k = record {
  handed = h.handed ++ k.handed;
  split = sym (append_assoc o.waiting a b) ∙ ap (λ t. t ++ b) h.split ∙ append_assoc h.handed m.waiting b
      ∙ ap (λ t. h.handed ++ t) k.split ∙ sym (append_assoc h.handed k.handed n.waiting);
  appended = Appends-trans o.held m.held n.held h.handed k.handed h.appended k.appended;
}

begins_then : (o m n : Written) (a b : List ℕ) → Continues o m a → AppendsBeginning m.held n.held (m.waiting ++ b) →
    AppendsBeginning o.held n.held (o.waiting ++ (a ++ b))
begins_then o m n a b h k = record {
  part = h.handed ++ k.part;
  rest = k.rest;
  split = sym (append_assoc o.waiting a b) ∙ ap (λ t. t ++ b) h.split ∙ append_assoc h.handed m.waiting b
      ∙ ap (λ t. h.handed ++ t) k.split ∙ sym (append_assoc h.handed k.part k.rest);
  appended = Appends-trans o.held m.held n.held h.handed k.part h.appended k.appended;
}

begins_more : (o n : Written) (a b : List ℕ) → AppendsBeginning o.held n.held (o.waiting ++ a) →
    AppendsBeginning o.held n.held (o.waiting ++ (a ++ b))
begins_more o n a b h = record {
  part = h.part;
  rest = h.rest ++ b;
  split = sym (append_assoc o.waiting a b) ∙ ap (λ t. t ++ b) h.split ∙ append_assoc h.part h.rest b;
  appended = h.appended;
}

puts_after : {T E : Type 0} (o m n : Written) (r : Result T E) (a b : List ℕ) → m.name ≡ o.name → Continues o m a → Puts m n r b →
    Puts o n r (a ++ b)
puts_after o m n (Ok x) a b e h k = record { same = k.same ∙ e; all = continues_then o m n a b h k.all; beginning = tt }
puts_after o m n (Err x) a b e h k = record { same = k.same ∙ e; all = tt; beginning = begins_then o m n a b h k.beginning }

-- one text was put, and then another one
pub puts_then : {S T E F : Type 0} {o m n : Written} {x : S} {r : Result T E} {a b : List ℕ} →
    Puts {T = S} {E = F} o m (Ok x) a → Puts m n r b → Puts o n r (a ++ b)
puts_then {o = o} {m = m} {n = n} {r = r} {a = a} {b = b} h k = puts_after o m n r a b h.same h.all k

puts_beginning : {T E : Type 0} (o n : Written) (r : Result T E) (text : List ℕ) → IsErr r → n.name ≡ o.name →
    AppendsBeginning o.held n.held (o.waiting ++ text) → Puts o n r text
puts_beginning o n (Ok x) text bad e h = cc
puts_beginning o n (Err x) text bad e h = record { same = e; all = tt; beginning = h }

-- one text was not put, and so none after it
pub puts_stop : {S T E F : Type 0} {o n : Written} {e : E} {r : Result T F} {a : List ℕ} →
    IsErr r → Puts {T = S} {E = E} o n (Err e) a → (b : List ℕ) → Puts o n r (a ++ b)
puts_stop {o = o} {n = n} {r = r} {a = a} bad h b = puts_beginning o n r (a ++ b) bad h.same (begins_more o n a b h.beginning)

-- a text that equals another one
pub puts_same : {T E : Type 0} {o n : Written} {r : Result T E} {a b : List ℕ} → Puts o n r a → a ≡ b → Puts o n r b
puts_same {o = o} {n = n} {r = r} h e = let P : List ℕ → Type 0 = λ t. Puts o n r t in subst P e h

-- no text was put yet
pub puts_none : {T E : Type 0} (o : Written) (x : T) → Puts {E = E} o o (Ok x) []
puts_none o x = record { same = refl; all = continues_none o; beginning = tt }

-- an empty text was put, whatever the result
pub puts_nothing : {T E : Type 0} (o : Written) (r : Result T E) → Puts o o r []
puts_nothing o (Ok x) = puts_none o x
puts_nothing o (Err e) = record {
  same = refl;
  all = tt;
  beginning = record { part = []; rest = o.waiting; split = append-nil o.waiting; appended = Appends-nil o.held };
}

-- the text was added to what waits
pub puts_waiting : {T E : Type 0} {o n : Written} {text : List ℕ} (x : T) → Adds o n text → Puts {E = E} o n (Ok x) text
puts_waiting {o = o} x h =
    rw h.waits (record { same = refl; all = record { handed = []; split = refl; appended = Appends-nil o.held }; beginning = tt })

-- one text was put, and another one was added
pub puts_more : {T E : Type 0} {o m n : Written} {x : T} {a b : List ℕ} → Puts {E = E} o m (Ok x) a → Adds m n b →
    Puts {E = E} o n (Ok x) (a ++ b)
puts_more {E = E} {x = x} h k = puts_then h (puts_waiting {E = E} x k)

-- all text that waited was handed over, and a new one after it
pub puts_through : {T E : Type 0} (name : ℕ) (o n : Option (List ℕ)) (waiting text : List ℕ) (r : Result T E) →
    WritesText o n r (waiting ++ text) →
    Puts (record { name = name; held = o; waiting = waiting }) (record { name = name; held = n; waiting = [] }) r text
puts_through name o n waiting text (Ok x) h = record {
  same = refl;
  all = record { handed = waiting ++ text; split = sym (append-nil (waiting ++ text)); appended = h.all };
  beginning = tt;
}
puts_through name o n waiting text (Err x) h = record { same = refl; all = tt; beginning = h.beginning }

-- a pen that began with no text waiting and ends so handed over all text that was put
pub puts_written : {T E : Type 0} (o n : Written) (r : Result T E) (text : List ℕ) → o.waiting ≡ [] → OnOk r (n.waiting ≡ []) → Puts o n r text →
    WritesText o.held n.held r text
puts_written o n (Ok x) text e f h =
    let P : List ℕ → Type 0 = λ t. Appends o.held n.held t in
    let whole : h.all.handed ≡ text =
    sym (append-nil h.all.handed) ∙ ap (λ t. h.all.handed ++ t) (sym f) ∙ sym h.all.split ∙ ap (λ t. t ++ text) e in
    record { all = subst P whole h.all.appended; beginning = tt }
puts_written o n (Err x) text e f h =
    let P : List ℕ → Type 0 = λ t. AppendsBeginning o.held n.held t in
    record { all = tt; beginning = subst P (ap (λ t. t ++ text) e) h.beginning }

-- no text waits, and a text is handed over directly
pub puts_past : {T E : Type 0} (name : ℕ) (o n : Option (List ℕ)) (waiting text : List ℕ) (r : Result T E) → waiting ≡ [] → WritesText o n r text →
    Puts (record { name = name; held = o; waiting = waiting }) (record { name = name; held = n; waiting = waiting }) r text
puts_past name o n waiting text (Ok x) e h = record {
  same = refl;
  all = record { handed = text; split = rw e (sym (append-nil text)); appended = h.all };
  beginning = tt;
}
puts_past name o n waiting text (Err x) e h = record { same = refl; all = tt; beginning = rw e h.beginning }

-- the writer holds the same bytes
pub writes_held : {T E : Type 0} {o m n : Option (List ℕ)} {r : Result T E} {text : List ℕ} → WritesText o m r text → m ≡ n → WritesText o n r text
writes_held {o = o} {r = r} {text = text} h e = let P : Option (List ℕ) → Type 0 = λ n. WritesText o n r text in subst P e h

-- ---- a loop that puts text

-- the part of a text that was put so far, and the rest
pub record Leaves (old now : Written) (text rest : List ℕ) : Type 0 where
  pub done : List ℕ
  pub same : now.name ≡ old.name
  pub split : text ≡ done ++ rest
  pub continued : Continues old now done

-- at first all of it is left
pub leaves_all : (o : Written) (text : List ℕ) → Leaves o o text text
leaves_all o text = record { done = []; same = refl; split = refl; continued = continues_none o }

-- a part of the rest was put
pub leaves_less : {T E : Type 0} {o m n : Written} {x : T} {text rest part : List ℕ} (more : List ℕ) →
    Leaves o m text rest → Puts {E = E} m n (Ok x) part → rest ≡ part ++ more → Leaves o n text more
leaves_less {o = o} {m = m} {n = n} {part = part} more h k e = record {
  done = h.done ++ part;
  same = k.same ∙ h.same;
  split = h.split ∙ ap (λ t. h.done ++ t) e ∙ sym (append_assoc h.done part more);
  continued = continues_then o m n h.done part h.continued k.all;
}

-- at last nothing is left
pub leaves_none : {T E : Type 0} {o n : Written} {text : List ℕ} (x : T) → Leaves o n text [] → Puts {E = E} o n (Ok x) text
leaves_none {o = o} {n = n} {text = text} x h =
    let e : text ≡ h.done = h.split ∙ append-nil h.done in
    let P : List ℕ → Type 0 = λ t. Continues o n t in
    record { same = h.same; all = subst P (sym e) h.continued; beginning = tt }

-- a part of the rest was not put
pub leaves_off : {T S E F : Type 0} {o m n : Written} {e : E} {r : Result T F} {text rest part : List ℕ} (more : List ℕ) →
    IsErr r → Leaves o m text rest → Puts {T = S} {E = E} m n (Err e) part → rest ≡ part ++ more → Puts o n r text
leaves_off {o = o} {m = m} {n = n} {e = d} {r = r} {text = text} {part = part} more bad h k e =
    let split : h.done ++ (part ++ more) ≡ text = sym (h.split ∙ ap (λ t. h.done ++ t) e) in
    puts_same (puts_after o m n r h.done (part ++ more) h.same h.continued (puts_stop bad k more)) split

-- ---- a loop that puts a text for each number of a list

part-drop : (f : ℕ → List ℕ) (xs : List ℕ) (i : ℕ) (part : List ℕ) → i < length xs → part ≡ f (get_or xs i 0) →
    flat_map f (drop i xs) ≡ part ++ flat_map f (drop (i + 1) xs)
part-drop f xs i part lt e =
    at_drop_more (flat_map f) xs i 0 lt ∙ ap (λ t. t ++ flat_map f (drop (i + 1) xs)) (sym e)

pub each_next : {T E : Type 0} {o m n : Written} {x : T} {text part : List ℕ} (f : ℕ → List ℕ) (xs : List ℕ) (i : ℕ) →
    Leaves o m text (flat_map f (drop i xs)) → Puts {E = E} m n (Ok x) part → i < length xs → part ≡ f (get_or xs i 0) →
    Leaves o n text (flat_map f (drop (i + 1) xs))
each_next {part = part} f xs i h k lt e = leaves_less _ h k (part-drop f xs i part lt e)

pub each_off : {T S E F : Type 0} {o m n : Written} {d : E} {r : Result T F} {text part : List ℕ} (f : ℕ → List ℕ)
    (xs : List ℕ) (i : ℕ) →
    IsErr r → Leaves o m text (flat_map f (drop i xs)) → Puts {T = S} {E = E} m n (Err d) part → i < length xs
    → part ≡ f (get_or xs i 0) → Puts o n r text
each_off {part = part} f xs i bad h k lt e = leaves_off _ bad h k (part-drop f xs i part lt e)

pub each_done : {T E : Type 0} {o n : Written} {text : List ℕ} (f : ℕ → List ℕ) (xs : List ℕ) (i : ℕ) (x : T) →
    Leaves o n text (flat_map f (drop i xs)) → length xs ≤ i → Puts {E = E} o n (Ok x) text
each_done {o = o} {n = n} {text = text} f xs i x h le =
    let e : flat_map f (drop i xs) ≡ [] = at_drop_all (flat_map f) xs i le in
    let P : List ℕ → Type 0 = λ t. Leaves o n text t in
    leaves_none x (subst P e h)

-- ---- a place in the buffer

-- one text was placed, and then another
pub places_then : {old mid new a b : List ℕ} {at there end : ℕ} → Places old mid at a there → Places mid new there b end →
    Places old new at (a ++ b) end
places_then {old = old} {a = a} {b = b} {at = at} h k = record {
  bytes = k.bytes ∙ ap (λ t. t ++ b) h.bytes ∙ append_assoc (take at old) a b;
  moved = omega (arith, h.moved, k.moved, length-append a b);
}

-- a text that equals another one
pub places_same : {old new a b : List ℕ} {at end : ℕ} → Places old new at a end → a ≡ b → Places old new at b end
places_same {old = old} {new = new} {at = at} {end = end} h e = let P : List ℕ → Type 0 = λ t. Places old new at t end in subst P e h

abbrev waits_by : ℕ → Option (List ℕ) → List ℕ → Written
waits_by name held waiting = record { name = name; held = held; waiting = waiting }

-- a text was placed whole, and a part of it is used
pub part_placed : (bytes placed : List ℕ) (at k n : ℕ) → at + length placed ≤ length bytes → n ≤ length placed →
    take (at + n) (put_mid at k bytes placed) ≡ take at bytes ++ take n placed
part_placed bytes placed at k n room part =
    let front : length (take at bytes) ≡ at = length-take-le at bytes (omega arith) in
    let whole : take (at + length placed) (put_mid at k bytes placed) ≡ take at bytes ++ placed =
    take-put_mid at k bytes placed (at + length placed) refl (omega arith) in
    let seam : take (at + n) (take at bytes ++ placed) ≡ take at bytes ++ take n placed = rw front at (take-append-add (take at bytes) placed n) in
    sym (take-take (at + n) (at + length placed) (put_mid at k bytes placed) (omega arith)) ∙ ap (take (at + n)) whole ∙ seam

-- of a label, as many bytes are used as its text has
pub label_added : (name : ℕ) (held : Option (List ℕ)) (bytes placed label : List ℕ) (at k n size : ℕ) → placed ≡ label →
    at + size ≤ length bytes → length label ≡ size → n ≤ size →
    Adds (record { name = name; held = held; waiting = take at bytes })
    (record { name = name; held = held; waiting = take (at + n) (put_mid at k bytes placed) }) (take n label)
label_added name held bytes placed label at k n size same room long few =
    let whole : length placed ≡ size = ap length same ∙ long in
    record {
      waits = ap (waits_by name held)
          (part_placed bytes placed at k n (omega (arith, whole)) (omega (arith, whole)) ∙ ap (λ t. take at bytes ++ take n t) same);
    }

-- the inside of the text at the front of a label's bytes
pub inner_taken : (bytes : List ℕ) (n : ℕ) → n ≤ length bytes → take (n - 2) (drop 1 bytes) ≡ inner (take n bytes)
inner_taken [] n h = let none : n ≡ 0 = omega arith in rw none refl
inner_taken (byte ∷ bytes) zero h = refl
inner_taken (byte ∷ bytes) (suc n) h =
    let long : length (take n bytes) ≡ n = length-take-le n bytes (omega arith) in
    sym (ap (λ k. take (suc k - 2) (take n bytes)) long ∙ take-take (suc n - 2) n bytes (omega arith))
