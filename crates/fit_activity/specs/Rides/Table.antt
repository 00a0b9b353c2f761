-- The values of a sample, in the order of the table of its fields.
use Rattle.std.specs.Prelude.{◌≡◌, ℕ, ◌+◌, ◌<◌, ◌≤◌, ◌^◌, List, [], ◌∷◌, slice_index_or, Option, None, option_map, IfSome, ⊤}
use Rattle.std.specs.List.{AllByRecursion}
use Rattle.fit_base.specs.Base.{row_of}
use Rattle.fit_base.specs.Number.{as_unsigned, twos_complement}
use Rattle.fit_activity.specs.Rides.Fields.{SampleField, sample_rows}
use Rattle.fit_activity.specs.declared.recording.entry.Sample.{Sample}

-- a sample's values in the order of the rows, each as the unsigned number of its bytes
abbrev pub raw_values : Sample → List (Option ℕ)
raw_values s =
    option_map (as_unsigned 4) s.lat
    ∷ option_map (as_unsigned 4) s.long
    ∷ s.altitude
    ∷ s.heart_rate
    ∷ s.cadence
    ∷ s.distance
    ∷ s.speed
    ∷ s.power
    ∷ option_map (as_unsigned 1) s.temperature
    ∷ s.enhanced_speed
    ∷ s.enhanced_altitude
    ∷ []

-- the sample with these values; a value missing from the list is none
abbrev pub of_raw : ℕ → List (Option ℕ) → Sample
of_raw time values =
    let value = λ (at : ℕ). slice_index_or values at None in
    record {
      time = time;
      lat = option_map (twos_complement 4) (value 0);
      long = option_map (twos_complement 4) (value 1);
      altitude = value 2;
      heart_rate = value 3;
      cadence = value 4;
      distance = value 5;
      speed = value 6;
      power = value 7;
      temperature = option_map (twos_complement 1) (value 8);
      enhanced_speed = value 9;
      enhanced_altitude = value 10;
    }

-- each value fits into the bytes of its row's base type
abbrev pub ValuesFit : List SampleField → List (Option ℕ) → Type 0
ValuesFit (row ∷ rows) (value ∷ values) =
    IfSome value (λ n. n < 256 ^ (row_of row.1).size) × ValuesFit rows values
ValuesFit _ _ = ⊤

-- each number is in the range of its field's type: it fits into its bytes, and equals the number read back from them
pub record SampleFits (s : Sample) : Type 0 where
  pub time : s.time < 2 ^ 32
  pub values : ValuesFit sample_rows (raw_values s)
  pub back : of_raw s.time (raw_values s) ≡ s

-- each base type has at most four bytes
abbrev pub AreShort : List SampleField → Type 0
AreShort rows = AllByRecursion (λ row. (row_of row.1).size ≤ 4) rows

-- rows in ascending order of their numbers, from this one on and below that of a timestamp
abbrev pub Ascend : ℕ → List SampleField → Type 0
Ascend from [] = ⊤
Ascend from (row ∷ rows) = (from ≤ row.0) × (row.0 < 253) × Ascend (row.0 + 1) rows
