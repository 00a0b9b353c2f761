-- The ride that the tests write.
use Rattle.std.specs.Prelude.{ℕ, List, codes}

abbrev pub new_ride : List ℕ
new_ride = codes "a new ride, longer"
