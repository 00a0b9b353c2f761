-- The points of a track, as the walk over the messages gives them: for `gpx`.
use Rattle.std.proofs.Common.{◌≡◌, ℕ, zero, suc, ◌+◌, ◌<◌, ℤ, Bool, true, false, List, [], ◌∷◌, ◌++◌, length, get_or, Result, Ok, Err, OnOk, refl, sym, ap, ◌∙◌, append_assoc, append-nil, Option, Some, ◌==◌, if◌then◌else◌, arith}
use Rattle.std.specs.List.{flat_map}
use Rattle.fit_grammar.specs.Format.Message.{Message}
use Rattle.fit_text.specs.Pen.{Written, Puts}
use Rattle.fit_text.proofs.PenLemmas.{puts_stop, puts_same}
use Rattle.fit_columns.specs.declared.fields.FieldHere.{FieldHere}
use Rattle.fit_columns.specs.declared.place.Place.{Place}
use Rattle.fit_columns.specs.Columns.{messages_numbered}
use Rattle.fit_columns.specs.Places.{ArePlaces, IsPlace}
use Rattle.fit_table.specs.declared.unit.Unit.{Unit as AnyUnit}
use Rattle.fit_table.specs.Gpx.{between, fields, text_if}
use Rattle.fit_table.specs.Number.{unit_text}
use Rattle.fit_table.specs.Table.{lines_by}
use Rattle.fit_table.specs.Tokens.{Token, Text, Digits, IsTextOf, PutsTokens}

-- the text of tokens without a float
abbrev pub texts : List Token → List ℕ
texts [] = []
texts (Text text ∷ tokens) = text ++ texts tokens
texts (Digits f bits ∷ tokens) = texts tokens

abbrev pub AreTexts : List Token → Type 0
AreTexts [] = Unit {0}
AreTexts (Text text ∷ tokens) = AreTexts tokens
AreTexts (Digits f bits ∷ tokens) = ⊥

text_is : (tokens back : List Token) (text : List ℕ) → AreTexts (tokens ++ back) → IsTextOf tokens text → text ++ texts back ≡ texts (tokens ++ back)
text_is [] back text are is = rw is refl
text_is (Text own ∷ tokens) back text are is =
    rw (is.4, is.2, append_assoc) (ap (λ t. own ++ t) (text_is tokens back is.1 are is.3))
text_is (Digits f bits ∷ tokens) back text are is = absurd are

puts_by : {T E : Type 0} {o n : Written} (r : Result T E) (tokens back : List Token) (text : List ℕ) → OnOk r (back ≡ []) →
    AreTexts (tokens ++ back) → IsTextOf tokens text → Puts o n r text → Puts o n r (texts (tokens ++ back))
puts_by (Ok x) tokens back text whole are is h =
    puts_same h (sym (append-nil text) ∙ ap (λ b. text ++ texts b) (sym whole) ∙ text_is tokens back text are is)
puts_by {T = T} (Err e) tokens back text whole are is h = puts_same (puts_stop {T = T} {r = Err e} refl h (texts back)) (text_is tokens back text are is)

pub puts_texts : {T E : Type 0} {o n : Written} {r : Result T E} (tokens : List Token) → AreTexts tokens → PutsTokens o n r tokens →
    Puts o n r (texts tokens)
puts_texts {o = o} {n = n} {r = r} tokens are h =
    rw h.split (puts_by r h.front h.back h.text h.whole (rw h.split at are) h.is h.puts)

-- the points of the messages that are records
abbrev pub points_by : (Message → List ℕ) → ℕ → ℕ → List Message → List Token
points_by point = lines_by (λ place m. Text (point m) ∷ [])

if_texts : (is : Bool) (text : List ℕ) (tokens : List Token) → AreTexts tokens → AreTexts ((if is then Text text ∷ [] else []) ++ tokens)
if_texts true text tokens are = are
if_texts false text tokens are = are

pub are_texts : (point : Message → List ℕ) (number place : ℕ) (messages : List Message) → AreTexts (points_by point number place messages)
are_texts point number place [] = tt
are_texts point number place (m ∷ messages) =
    if_texts (m.global == number) (point m) _ (are_texts point number (place + 1) messages)

if_points : (point : Message → List ℕ) (is : Bool) (m : Message) (tokens : List Token) (messages : List Message) →
    texts tokens ≡ flat_map point messages →
    texts ((if is then Text (point m) ∷ [] else []) ++ tokens) ≡ flat_map point (if is then m ∷ messages else messages)
if_points point true m tokens messages e = ap (λ t. point m ++ t) e
if_points point false m tokens messages e = e

pub points_are : (point : Message → List ℕ) (number place : ℕ) (messages : List Message) →
    texts (points_by point number place messages) ≡ flat_map point (messages_numbered number messages)
points_are point number place [] = refl
points_are point number place (m ∷ messages) =
    if_points point (m.global == number) m _ (messages_numbered number messages) (points_are point number (place + 1) messages)

-- ---- a value of a record

pub place_at : (fields : List FieldHere) (numbers : List ℕ) (places : List Place) (at : ℕ) (any : Place) → ArePlaces fields numbers places →
    at < length numbers → IsPlace fields (get_or numbers at 0) (get_or places at any)
place_at fields [] places at any h below = absurd (omega (arith, below))
place_at fields (number ∷ numbers) [] at any h below = absurd h
place_at fields (number ∷ numbers) (place ∷ places) zero any h below = h.0
place_at fields (number ∷ numbers) (place ∷ places) (suc at) any h below = place_at fields numbers places at any h.1 (omega (arith, below))

-- each is the number of a field
pub small_at : (at : ℕ) → get_or fields at 0 < 256
small_at zero = omega arith
small_at (suc zero) = omega arith
small_at (suc (suc zero)) = omega arith
small_at (suc (suc (suc zero))) = omega arith
small_at (suc (suc (suc (suc zero)))) = omega arith
small_at (suc (suc (suc (suc (suc zero))))) = omega arith
small_at (suc (suc (suc (suc (suc (suc zero)))))) = omega arith
small_at (suc (suc (suc (suc (suc (suc (suc zero))))))) = omega arith
small_at (suc (suc (suc (suc (suc (suc (suc (suc zero)))))))) = omega arith
small_at (suc (suc (suc (suc (suc (suc (suc (suc (suc at))))))))) = omega arith

-- ---- what is written if there is something

pub between_some : (before : List ℕ) (unit : AnyUnit) (o : Option ℤ) (after : List ℕ) (value given : ℤ) → o ≡ Some value → given ≡ value →
    before ++ (unit_text [] unit given ++ after) ≡ between before unit o after
between_some before unit o after value given is same = rw (is, same) refl

pub text_some : (is : Bool) (text : List ℕ) → is ≡ true → text ≡ text_if is text
text_some is text e = rw e refl
