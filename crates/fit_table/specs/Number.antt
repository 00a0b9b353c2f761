-- Numbers in decimal, in units.
use Rattle.std.specs.Prelude.{ℕ, ◌≤◌, zero, suc, ◌+◌, ◌*◌, ◌^◌, ◌/◌, ◌%◌, ℤ, pos, negsuc, neg_ℤ, ◌≤ℤ◌, ◌-ℤ◌, ◌*ℤ◌, Bool, false, List, [], ◌∷◌, ◌++◌, Result, Ok, Err, codes, decimal, nat_le, ◌==◌, ◌&&◌, if◌then◌else◌}
use Rattle.std.specs.Fmt.{signed_decimal}
use Rattle.fit_text.specs.Date.{date_text}
use Rattle.fit_table.specs.declared.unit.Unit.{Unit as AnyUnit}
use Rattle.fit_table.specs.declared.unit.Unit.TheVariants.{Whole, Time, Date, Scaled, Stated}
use Rattle.fit_profile.specs.declared.scale.Parts.{Parts}
use Rattle.fit_profile.specs.Scale.{parts, parts_of}

-- the last digits of a number, this many
abbrev pub digits : ℕ → ℕ → List ℕ
digits zero n = []
digits (suc count) n = digits count (n / 10) ++ (48 + n % 10) ∷ []

-- a number of units of which `power` are one, with so many digits after the point
abbrev pub places_text : ℕ → ℕ → ℕ → List ℕ
places_text power count n = decimal (n / power) ++ (codes "." ++ digits count (n % power))

-- a number without its sign: Ok if it is not negative
abbrev pub split_of : ℤ → Result ℕ ℕ
split_of (pos n) = Ok n
split_of (negsuc n) = Err (suc n)

abbrev pub signed_text : (ℕ → List ℕ) → Result ℕ ℕ → List ℕ
signed_text text (Ok n) = text n
signed_text text (Err n) = codes "-" ++ text n

-- a value of a scale of the Profile: the nearest with so many decimals
abbrev pub decimals_text : ℕ → ℕ → ℕ → List ℕ
decimals_text power zero n = decimal n
decimals_text power (suc count) n = places_text power (suc count) n

abbrev pub nearest : Parts → ℕ → ℕ
nearest parts n = (n * parts.multiplier + parts.divisor / 2) / parts.divisor

abbrev pub scaled_text : Parts → ℤ → List ℕ
scaled_text parts value =
    signed_text (λ n. decimals_text parts.power parts.decimals (nearest parts n))
    (split_of (value -ℤ parts.shift))

-- a value of a scale and an offset that a file states is the number / scale - offset; a scale of 0 counts as 1
abbrev pub scale_or_one : ℕ → ℕ
scale_or_one zero = 1
scale_or_one scale = scale

abbrev pub stated_with : ℕ → ℤ → ℕ → ℕ → Parts
stated_with scale offset power decimals =
    parts (offset *ℤ pos scale) power scale power decimals

-- values are exact by the scales 1, 10 and 100; by others they are the nearest with eight decimals
abbrev pub stated_by : ℕ → ℤ → Parts
stated_by scale offset =
    if scale == 1 then stated_with scale offset 1 0
    else if scale == 10 then stated_with scale offset 10 1
    else if scale == 100 then stated_with scale offset 100 2
    else stated_with scale offset 100000000 8

abbrev pub stated_parts : ℕ → ℤ → Parts
stated_parts scale offset = stated_by (scale_or_one scale) offset

-- whether a time is a calendar time of 32 bits
abbrev pub is_date : ℤ → Bool
is_date (pos n) = nat_le 268435456 n && nat_le n 4294967295
is_date (negsuc n) = false

-- such a time as a date
abbrev pub date_or : List ℕ → ℤ → List ℕ
date_or empty (pos n) = if is_date (pos n) then date_text n else empty
date_or empty (negsuc n) = empty

-- numbers that are small enough for this
abbrev pub limit : ℕ
limit = 8590983168

abbrev pub IsWide : ℤ → Type 0
IsWide value = (neg_ℤ (pos limit) ≤ℤ value) × (value ≤ℤ pos limit)

-- whole numbers of up to this many bits, with or without a sign
abbrev pub IsWithin : ℕ → ℤ → Type 0
IsWithin bits value = (neg_ℤ (pos (2 ^ bits)) ≤ℤ value) × (value ≤ℤ pos (2 ^ bits))

-- parts that leave room in 64 bits; 32640 is 128 * 255, the most that an offset shifts by a scale that a file states
pub record AreSmallParts (parts : Parts) : Type 0 where
  pub multiplier : parts.multiplier ≤ 1125000000
  pub divisor : 1 ≤ parts.divisor
  pub half : parts.divisor ≤ 134217728
  pub power : 1 ≤ parts.power
  pub decimals : parts.decimals ≤ 8
  pub low : neg_ℤ (pos 32640) ≤ℤ parts.shift
  pub high : parts.shift ≤ℤ pos 32640

-- a value in its unit; the first text is that of a cell without a value
abbrev pub unit_text : List ℕ → AnyUnit → ℤ → List ℕ
unit_text empty Whole value = signed_decimal value
unit_text empty Time value = signed_decimal value
unit_text empty Date value = date_or empty value
unit_text empty (Scaled scale) value = scaled_text (parts_of scale) value
unit_text empty (Stated scale offset) value = scaled_text (stated_parts scale offset) value
