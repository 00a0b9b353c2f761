use Rattle.std.proofs.Common.{◌≡◌, ◌+◌, ◌*◌, ◌≤◌, ◌++◌, length, take}
use Rattle.fit_columns.specs.Places.{ArePlacesIn}
use Rattle.fit_columns.specs.Values.{places_bytes}
use Rattle.fit_columns.proofs.values.put_bytes.Given as goal

abbrev pub invariant-loop-left : goal.invariant-loop-left
invariant-loop-left l = record {
  inside : ArePlacesIn (length l.content) l.left;
  long : l.end + length (places_bytes l.left l.content) ≡ l.len + length (places_bytes l.places l.content);
  most : l.end + 255 * length l.left ≤ l.len + 255 * length l.places;
  put : l.end ≤ length l.initial.values →
      take l.end l.values ++ places_bytes l.left l.content ≡ take l.len l.initial.values ++ places_bytes l.places l.content;
}

abbrev pub decreases-loop-left : goal.decreases-loop-left
decreases-loop-left l = length l.left
