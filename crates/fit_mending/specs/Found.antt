-- The files that stand somewhere in bytes.
use Rattle.std.specs.Prelude.{◌≡◌, ℕ, ◌+◌, ◌*◌, ◌<◌, ◌≤◌, List, [], ◌∷◌, ◌++◌, length, take, drop}
use Rattle.fit_grammar.specs.declared.file.fault.FaultKind.{FaultKind}
use Rattle.fit_grammar.specs.Format.File.{FileValue, FileOf}
use Rattle.fit_grammar.specs.Format.Refusal.{Refusal}
use Rattle.fit_mending.specs.declared.chained.Part.{Part}
use Rattle.fit_mending.specs.Chained.{EndsFirst}

-- these bytes begin with this file
abbrev pub BeginsWithFile : List ℕ → List ℕ → Type 0
BeginsWithFile bytes file =
    (v : FileValue) × FileOf file v × (rest : List ℕ) × (bytes ≡ file ++ rest)

-- they begin with some file
abbrev pub BeginsFile : List ℕ → Type 0
BeginsFile bytes = (file : List ℕ) × BeginsWithFile bytes file

-- no file begins in the bytes from one place to before another
abbrev pub HasNoFile : List ℕ → ℕ → ℕ → Type 0
HasNoFile bytes from to = (at : ℕ) → from ≤ at → at < to → BeginsFile (drop at bytes) → ⊥

-- These are the files of the bytes from a place on: the first of them begins where the first file does, and those after it are the files
-- of the bytes behind its end.
abbrev pub AreFound : List ℕ → ℕ → List Part → Type 0
AreFound bytes from [] = HasNoFile bytes from (length bytes)
AreFound bytes from (part ∷ parts) =
    (from ≤ part.number) × HasNoFile bytes from part.number
    × BeginsWithFile (drop part.number bytes) part.bytes.now
    × AreFound bytes (part.number + length part.bytes.now) parts

-- the first file of these bytes is refused at this place, up to which it is read
abbrev pub IsReadTo : List ℕ → ℕ → Type 0
IsReadTo bytes place =
    (end : ℕ) × EndsFirst bytes end × (kind : FaultKind) × Refusal (take end bytes) kind place

-- the first files from these places on, each before the one before it, are refused, and so many bytes of them are read
abbrev pub AreReadBefore : List ℕ → ℕ → List ℕ → ℕ → Type 0
AreReadBefore bytes to [] read = read ≡ 0
AreReadBefore bytes to (at ∷ places) read =
    (place : ℕ) × (more : ℕ) × (at < to) × IsReadTo (drop at bytes) place × (read ≡ place + more)
    × AreReadBefore bytes at places more

-- more than 32 times as many bytes as there are would be read in vain
abbrev pub TakesTooLong : List ℕ → Type 0
TakesTooLong bytes =
    (places : List ℕ) × (read : ℕ) × AreReadBefore bytes (length bytes) places read
    × (32 * (length bytes + 1) ≤ read)
