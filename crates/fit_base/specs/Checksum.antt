-- Checksums of bytes: a register that takes bit after bit, the low one first, and shifts to the right. Its polynomial is reflected.
use Rattle.std.specs.Prelude.{ℕ, ◌/◌, ◌%◌, List, [], ◌∷◌, bit_xor, ◌==◌, if◌then◌else◌, fold, flat_map}

-- the register after one bit
abbrev pub bit_step : ℕ → ℕ → ℕ → ℕ
bit_step polynomial register bit =
    if bit_xor register bit % 2 == 1 then bit_xor (register / 2) polynomial else register / 2

-- the bits of a byte, low bit first
abbrev pub bits_of : ℕ → List ℕ
bits_of byte =
    byte % 2 ∷ byte / 2 % 2 ∷ byte / 4 % 2 ∷ byte / 8 % 2 ∷ byte / 16 % 2 ∷ byte / 32 % 2
    ∷ byte / 64 % 2 ∷ byte / 128 % 2 ∷ []

-- the register after these bytes
unfoldable pub register_after : ℕ → ℕ → List ℕ → ℕ
register_after polynomial register bytes =
    fold (bit_step polynomial) register (flat_map bits_of bytes)

-- that of a FIT file has 16 bits
abbrev pub fit_polynomial : ℕ
fit_polynomial = 0xA001

unfoldable pub crc_from : ℕ → List ℕ → ℕ
crc_from register bytes = register_after fit_polynomial register bytes

-- the checksum of these bytes: it starts at 0, and has no final step
abbrev pub crc : List ℕ → ℕ
crc bytes = crc_from 0 bytes

-- CRC-32, as zlib has it: the bits of its register are turned at the start and at the end, so that a checksum goes on where it ended
abbrev pub crc32_polynomial : ℕ
crc32_polynomial = 0xEDB88320

abbrev pub all_bits : ℕ
all_bits = 0xFFFFFFFF

unfoldable pub crc32_from : ℕ → List ℕ → ℕ
crc32_from checksum bytes =
    bit_xor (register_after crc32_polynomial (bit_xor checksum all_bits) bytes) all_bits

-- the checksum of these bytes: that of none is 0
abbrev pub crc32 : List ℕ → ℕ
crc32 bytes = crc32_from 0 bytes
