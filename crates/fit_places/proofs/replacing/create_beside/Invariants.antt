use Rattle.std.proofs.Common.{◌≡◌, ◌≢◌, ◌⊎◌, ℕ, ◌<◌, None, IsTrue}
use Rattle.fit_places.specs.Replaced.{name_beside}
use Rattle.fit_places.proofs.replacing.create_beside.Given as goal

abbrev pub invariant-loop-number : goal.invariant-loop-number
invariant-loop-number g l = IsTrue g.P.Place.honest → record {
  same : g.P.Place.story l.place ≡ g.P.Place.story l.fn.place;
  taken : (number : ℕ) → number < l.number-counter → (l.out ≡ name_beside number) ⊎ ((g.P.Place.story l.fn.place).now.names (name_beside number) ≢ None);
}
