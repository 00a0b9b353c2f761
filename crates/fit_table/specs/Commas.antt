-- Commas, one after another.
use Rattle.std.specs.Prelude.{ℕ, List, replicate}

abbrev pub commas : ℕ → List ℕ
commas count = replicate count 44
