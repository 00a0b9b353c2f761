-- What passes at a dialogue, in order.
use Rattle.std.specs.Prelude.{◌≡◌, ℕ, ◌+◌, List, [], ◌∷◌, ◌++◌, take, Option, Some, Result, Ok, Err, OnOk}
use Rattle.std.specs.Io.KnownBytes.{Appends}
use Rattle.std.specs.List.{AllByRecursion}
use Rattle.fit_files.specs.declared.reading.ReadFault.{ReadFault}
use Rattle.fit_runs.specs.declared.minute.Minute.{Minute}
use Rattle.fit_runs.specs.declared.minute.Minute.TheVariants as minutes

-- A read gave these bytes, none at the end of the input, or it failed; these bytes were written, or the first of a text were, and the write
-- failed.
pub data Exchange : Type 0 where
  Hear : List ℕ → Exchange
  HearFailed : ReadFault → Exchange
  Tell : List ℕ → Exchange
  TellFailed : List ℕ → Exchange

-- all bytes that were read
abbrev pub heard_in : List Exchange → List ℕ
heard_in [] = []
heard_in (Hear bytes ∷ exchanges) = bytes ++ heard_in exchanges
heard_in (HearFailed why ∷ exchanges) = heard_in exchanges
heard_in (Tell bytes ∷ exchanges) = heard_in exchanges
heard_in (TellFailed bytes ∷ exchanges) = heard_in exchanges

-- all bytes that were written
abbrev pub told_in : List Exchange → List ℕ
told_in [] = []
told_in (Hear bytes ∷ exchanges) = told_in exchanges
told_in (HearFailed why ∷ exchanges) = told_in exchanges
told_in (Tell bytes ∷ exchanges) = bytes ++ told_in exchanges
told_in (TellFailed bytes ∷ exchanges) = bytes ++ told_in exchanges

-- the number of reads
abbrev pub reads_in : List Exchange → ℕ
reads_in [] = 0
reads_in (Hear bytes ∷ exchanges) = 1 + reads_in exchanges
reads_in (HearFailed why ∷ exchanges) = 1 + reads_in exchanges
reads_in (Tell bytes ∷ exchanges) = reads_in exchanges
reads_in (TellFailed bytes ∷ exchanges) = reads_in exchanges

-- it is no read
abbrev pub IsTold : Exchange → Type 0
IsTold (Hear bytes) = ⊥
IsTold (HearFailed why) = ⊥
IsTold (Tell bytes) = Unit {0}
IsTold (TellFailed bytes) = Unit {0}

-- none of them is a read
abbrev pub AreTold : List Exchange → Type 0
AreTold exchanges = AllByRecursion IsTold exchanges

-- ---- what a call adds

-- a read with this result, which left this in its buffer
abbrev pub read_of : Result ℕ ReadFault → List ℕ → Exchange
read_of (Ok count) piece = Hear (take count piece)
read_of (Err why) piece = HearFailed why

-- a write with this result, which wrote these bytes
abbrev pub write_of : {T E : Type 0} → Result T E → List ℕ → Exchange
write_of (Ok done) bytes = Tell bytes
write_of (Err fault) bytes = TellFailed bytes

-- the exchange that is minuted with these bytes
abbrev pub minuted : Minute → List ℕ → Exchange
minuted minutes.Heard bytes = Hear bytes
minuted (minutes.HearFailed why) bytes = HearFailed why
minuted minutes.Told bytes = Tell bytes
minuted minutes.TellFailed bytes = TellFailed bytes

-- ---- the two sides

-- what the reader has left and what the writer holds, where they are known, and the name of the borrow of the writer
pub record Sides : Type 0 where
  pub name : ℕ
  pub left : Option (List ℕ)
  pub held : Option (List ℕ)

-- all that was told, as known bytes
abbrev pub told : List Exchange → Option (List ℕ)
told exchanges = Some (told_in exchanges)

-- this text was written, or the first part of it and the write failed; nothing else passed
pub record TellsText {T E : Type 0} (old new : List Exchange) (from to : Sides)
    (result : Result T E) (text : List ℕ) : Type 0 where
  pub done : List ℕ
  pub rest : List ℕ
  pub split : text ≡ done ++ rest
  pub all : OnOk result (rest ≡ [])
  pub grown : new ≡ old ++ write_of result done ∷ []
  pub name : to.name ≡ from.name
  pub left : to.left ≡ from.left
  pub held : Appends from.held to.held done

-- something was told, and nothing was heard
pub record OnlyTells (old new : List Exchange) (from to : Sides) : Type 0 where
  pub said : List Exchange
  pub are_told : AreTold said
  pub grown : new ≡ old ++ said
  pub name : to.name ≡ from.name
  pub left : to.left ≡ from.left
  pub held : Appends from.held to.held (told_in said)
