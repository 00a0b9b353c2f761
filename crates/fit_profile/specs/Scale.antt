-- How the values of each scale are written.
use Rattle.std.specs.Prelude.{ℕ, ℤ, pos, neg_ℤ}
use Rattle.fit_profile.specs.declared.scale.Scale.{Scale}
use Rattle.fit_profile.specs.declared.scale.Scale.TheVariants.{Time, Whole, Half, Quarter, Fifth, Tenth, Sixteenth, Hundredth, Part128, Part256, Thousandth, Part1024, Part5000, Part32768, Part65535, Part65536, Phase, Attitude, Semicircles, Hundreds, Twos, Height, Crank}
use Rattle.fit_profile.specs.declared.scale.Parts.{Parts}

abbrev pub parts : ℤ → ℕ → ℕ → ℕ → ℕ → Parts
parts shift multiplier divisor power decimals =
    record {
      shift = shift;
      multiplier = multiplier;
      divisor = divisor;
      power = power;
      decimals = decimals;
    }

-- (number - shift) * multiplier / divisor is `power` times the value
abbrev pub parts_of : Scale → Parts
parts_of Time = parts (pos 0) 1 1 1 0
parts_of Whole = parts (pos 0) 1 1 1 0
parts_of Half = parts (pos 0) 5 1 10 1
parts_of Quarter = parts (pos 0) 25 1 100 2
parts_of Fifth = parts (pos 0) 2 1 10 1
parts_of Tenth = parts (pos 0) 1 1 10 1
parts_of Sixteenth = parts (pos 0) 625 1 10000 4
parts_of Hundredth = parts (pos 0) 1 1 100 2
parts_of Part128 = parts (pos 0) 78125 1 10000000 7
parts_of Part256 = parts (pos 0) 390625 1 100000000 8
parts_of Thousandth = parts (pos 0) 1 1 1000 3
parts_of Part1024 = parts (pos 0) 390625 4 100000000 8
parts_of Part5000 = parts (pos 0) 2 1 10000 4
parts_of Part32768 = parts (pos 0) 390625 128 100000000 8
parts_of Part65535 = parts (pos 0) 20000000 13107 100000000 8
parts_of Part65536 = parts (pos 0) 390625 256 100000000 8
parts_of Phase = parts (pos 0) 140625 1 100000 5
parts_of Attitude = parts (pos 0) 50000000 521519 1000000 6
parts_of Semicircles = parts (pos 0) 1125000000 134217728 100000000 8
parts_of Hundreds = parts (pos 0) 100 1 1 0
parts_of Twos = parts (pos 0) 2 1 1 0
parts_of Height = parts (pos 2500) 2 1 10 1
parts_of Crank = parts (neg_ℤ (pos 220)) 5 1 10 1
