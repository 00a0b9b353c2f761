-- What a pen does with text: part of it was handed to its writer, and the rest waits.
use Rattle.std.specs.Prelude.{◌≡◌, ℕ, ◌+◌, ◌/◌, ◌%◌, List, [], ◌∷◌, ◌++◌, length, take, Option, Result, OnOk, OnErr}
use Rattle.std.specs.Io.KnownBytes.{Appends}
use Rattle.fit_grammar.specs.Calls.Output.{AppendsBeginning}

-- ---- a pen

-- the name of the borrow of the writer, what the writer holds if that is known, and the text that waits
pub record Written : Type 0 where
  pub name : ℕ
  pub held : Option (List ℕ)
  pub waiting : List ℕ

-- of the text that waited followed by the new one, a prefix was handed over and the rest waits
pub record Continues (old new : Written) (text : List ℕ) : Type 0 where
  pub handed : List ℕ
  pub split : old.waiting ++ text ≡ handed ++ new.waiting
  pub appended : Appends old.held new.held handed

-- at Ok the text was put; at Err a prefix of the text that waited followed by the new one was handed over
pub record Puts {T E : Type 0} (old new : Written) (result : Result T E)
    (text : List ℕ) : Type 0 where
  pub same : new.name ≡ old.name
  pub all : OnOk result (Continues old new text)
  pub beginning : OnErr result (AppendsBeginning old.held new.held (old.waiting ++ text))

-- the text was put
abbrev pub AddsBytes : Written → List ℕ → Written → Type 0
AddsBytes old text new = (new.name ≡ old.name) × Continues old new text

-- the text was added to what waits
pub record Adds (old new : Written) (text : List ℕ) : Type 0 where
  pub waits : new ≡ record old { waiting = old.waiting ++ text }

-- ---- digits

-- the three digits of a number below 1000
abbrev pub three : ℕ → List ℕ
three n = (48 + n / 100) ∷ (48 + n / 10 % 10) ∷ (48 + n % 10) ∷ []

-- ---- a place in the pen's buffer

-- up to the end, the buffer holds what was before the place and then the text; after it, any bytes
pub record Places (old new : List ℕ) (at : ℕ) (text : List ℕ) (end : ℕ) : Type 0 where
  pub bytes : take end new ≡ take at old ++ text
  pub moved : end ≡ at + length text
