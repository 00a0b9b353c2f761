-- The number that the bytes of a field encode (FIT protocol, "Base types").
use Rattle.std.specs.Prelude.{ℕ, ◌+◌, ◌*◌, ◌-◌, ◌^◌, ◌-ℤ◌, ℤ, pos, negsuc, suc, List, [], ◌∷◌, reverse, nat_lt, if◌then◌else◌}
use Rattle.fit_base.specs.declared.order.Arch.{Arch}
use Rattle.fit_base.specs.declared.order.Arch.TheVariants.{Little, Big}

-- the sum of byte i times 256 ^ i, counted from the first byte
abbrev pub low_first : List ℕ → ℕ
low_first [] = 0
low_first (byte ∷ bytes) = byte + 256 * low_first bytes

-- the same sum, counted from the first byte or from the last
abbrev pub number : Arch → List ℕ → ℕ
number Little bytes = low_first bytes
number Big bytes = low_first (reverse bytes)

-- a number of this many bytes, read as two's complement
abbrev pub twos_complement : ℕ → ℕ → ℤ
twos_complement size n =
    if nat_lt n (2 ^ (8 * size - 1)) then pos n else pos n -ℤ pos (2 ^ (8 * size))

-- the number of this many bytes that encodes a value: a negative value in two's complement
abbrev pub as_unsigned : ℕ → ℤ → ℕ
as_unsigned size (pos n) = n
as_unsigned size (negsuc n) = 2 ^ (8 * size) - suc n
