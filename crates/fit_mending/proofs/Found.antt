-- The files that stand in bytes, found from the front on.
use Rattle.std.proofs.Common.{◌≡◌, ℕ, ◌+◌, ◌/◌, ◌<◌, ◌≤◌, Bool, true, false, List, [], ◌∷◌, ◌++◌, length, drop, refl, sym, subst, arith}
use Rattle.std.specs.Prelude.{ltb, Result, Ok, Err, if◌then◌else◌}
use Rattle.std.specs.Result.{is_err, is_ok}
use Rattle.std.proofs.lemmas.Bool.{ltb-true, ltb-false, true≢false}
use Rattle.fit_mending.specs.declared.chained.Part.{Part}
use Rattle.fit_mending.specs.Found.{BeginsWithFile, BeginsFile, HasNoFile, AreFound, AreReadBefore, IsReadTo, TakesTooLong}

-- these are the files up to a place, after which none has begun so far
abbrev pub AreFoundTo : List ℕ → ℕ → List Part → ℕ → Type 0
AreFoundTo bytes from [] to = (from ≤ to) × HasNoFile bytes from to
AreFoundTo bytes from (part ∷ parts) to =
    (from ≤ part.number) × HasNoFile bytes from part.number
    × BeginsWithFile (drop part.number bytes) part.bytes.now
    × AreFoundTo bytes (part.number + length part.bytes.now) parts to

-- at first
pub nothing_found : (bytes : List ℕ) → AreFoundTo bytes 0 [] 0
nothing_found bytes = (omega arith, λ at low high begins. absurd (omega (arith, high)))

-- one more
pub found_more : (bytes : List ℕ) (from to : ℕ) (parts : List Part) (part : Part) → AreFoundTo bytes from parts to
    → part.number ≡ to → BeginsWithFile (drop to bytes) part.bytes.now
    → AreFoundTo bytes from (parts ++ part ∷ []) (to + length part.bytes.now)
found_more bytes from to [] part are at is = (
  omega (arith, are.0, at),
  subst (HasNoFile bytes from) (sym at) are.1,
  subst (λ n. BeginsWithFile (drop n bytes) part.bytes.now) (sym at) is,
  (omega (arith, at), λ place low high begins. absurd (omega (arith, low, high, at))),
)
found_more bytes from to (first ∷ parts) part are at is =
    (are.0, are.1, are.2, found_more bytes (first.number + length first.bytes.now) to parts part are.3 at is)

-- none begins at the next place
pub found_none : (bytes : List ℕ) (from to : ℕ) (parts : List Part) → AreFoundTo bytes from parts to → (BeginsFile (drop to bytes) → ⊥)
    → AreFoundTo bytes from parts (to + 1)
found_none bytes from to [] are none = (omega (arith, are.0), λ at low high begins. go at low high begins (ltb at to) refl)
  where
    go : (at : ℕ) → from ≤ at → at < to + 1 → BeginsFile (drop at bytes) → (b : Bool) → ltb at to ≡ b → ⊥
    go at low high begins true is = are.1 at low (ltb-true at to is) begins
    go at low high begins false is =
        let here : at ≡ to = omega (arith, high, ltb-false at to is) in
        none (subst (λ n. BeginsFile (drop n bytes)) here begins)
found_none bytes from to (part ∷ parts) are none =
    (are.0, are.1, are.2, found_none bytes (part.number + length part.bytes.now) to parts are.3 none)

-- at the end
pub all_found : (bytes : List ℕ) (from to : ℕ) (parts : List Part) → AreFoundTo bytes from parts to → length bytes ≤ to → AreFound bytes from parts
all_found bytes from to [] are ended = λ at low high begins. are.1 at low (omega (arith, high, ended)) begins
all_found bytes from to (part ∷ parts) are ended =
    (are.0, are.1, are.2, all_found bytes (part.number + length part.bytes.now) to parts are.3 ended)

-- what a call gives whose result is no error
pub pushed : {T E X : Type 0} (r : Result T E) (new more same : X) → is_err r ≡ false → new ≡ (if is_ok r then more else same) → new ≡ more
pushed (Ok x) new more same is e = e
pushed (Err x) new more same is e = absurd (true≢false is)

-- what was read in vain so far
abbrev pub HasRead : List ℕ → ℕ → ℕ → Type 0
HasRead bytes at passed = (places : List ℕ) × (read : ℕ) × AreReadBefore bytes at places read × (passed ≤ read)

later : (bytes : List ℕ) (at to : ℕ) (places : List ℕ) (read : ℕ) → at ≤ to → AreReadBefore bytes at places read
    → AreReadBefore bytes to places read
later bytes at to [] read less are = are
later bytes at to (place ∷ places) read less are = (are.0, are.1, omega (arith, less, are.2), are.3, are.4, are.5)

pub read_later : (bytes : List ℕ) (at to passed : ℕ) → at ≤ to → HasRead bytes at passed → HasRead bytes to passed
read_later bytes at to passed less has = (has.0, has.1, later bytes at to has.0 has.1 less has.2, has.3)

pub read_more : (bytes : List ℕ) (at place passed sum : ℕ) → HasRead bytes at passed → IsReadTo (drop at bytes) place → sum ≤ passed + place
    → HasRead bytes (at + 1) sum
read_more bytes at place passed sum has is most =
    (at ∷ has.0, place + has.1, (place, has.1, omega arith, is, refl, has.2), omega (arith, has.3, most))

pub reads_too_long : (bytes : List ℕ) (to passed : ℕ) → HasRead bytes to passed → to ≤ length bytes → length bytes < passed / 32
    → TakesTooLong bytes
reads_too_long bytes to passed has within much =
    (has.0, has.1, later bytes to (length bytes) has.0 has.1 within has.2, omega (arith, has.3, much))
