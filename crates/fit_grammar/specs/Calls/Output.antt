-- What a writer contains after a text was handed to it, if its contents are known.
use Rattle.std.specs.Prelude.{◌≡◌, ℕ, List, ◌++◌, Option, Result, OnOk, OnErr}
use Rattle.std.specs.Io.KnownBytes.{Appends}

-- a prefix of the text was appended
pub record AppendsBeginning (old new : Option (List ℕ)) (text : List ℕ) : Type 0 where
  pub part : List ℕ
  pub rest : List ℕ
  pub split : text ≡ part ++ rest
  pub appended : Appends old new part

-- at Ok all of the text was appended, and at Err a prefix of it
pub record WritesText {T E : Type 0} (old new : Option (List ℕ)) (result : Result T E)
    (text : List ℕ) : Type 0 where
  pub all : OnOk result (Appends old new text)
  pub beginning : OnErr result (AppendsBeginning old new text)
