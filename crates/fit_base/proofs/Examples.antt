-- The definitions at values known from outside, by computation.
use Rattle.std.proofs.Common.{◌≡◌, [], ◌∷◌, pos, negsuc, true, Some, None, refl}
use Rattle.fit_base.specs.declared.order.Arch.TheVariants.{Little, Big}
use Rattle.fit_base.specs.declared.base.BaseType.TheVariants.{Uint32, Sint64}
use Rattle.fit_base.specs.Number.{number, twos_complement, as_unsigned}
use Rattle.fit_base.specs.Checksum.{crc, crc32, crc32_from, crc_from, register_after}
use Rattle.fit_base.specs.Base.{base_type}
use Rattle.fit_base.specs.Value.{is_raw, count_of, signed_at}

-- "123456789", whose checksum is listed for CRC-16/ARC
digits : crc (0x31 ∷ 0x32 ∷ 0x33 ∷ 0x34 ∷ 0x35 ∷ 0x36 ∷ 0x37 ∷ 0x38 ∷ 0x39 ∷ []) ≡ 0xBB3D
unfolding crc_from register_after
digits = refl

-- the same, listed for CRC-32/ISO-HDLC
digits32 : crc32 (0x31 ∷ 0x32 ∷ 0x33 ∷ 0x34 ∷ 0x35 ∷ 0x36 ∷ 0x37 ∷ 0x38 ∷ 0x39 ∷ []) ≡ 0xCBF43926
unfolding crc32_from register_after
digits32 = refl

-- the first twelve bytes of a header that holds their checksum
header : crc (0x0E ∷ 0x10 ∷ 0x64 ∷ 0x00 ∷ 0x12 ∷ 0x00 ∷ 0x00 ∷ 0x00 ∷ 0x2E ∷ 0x46 ∷ 0x49 ∷ 0x54 ∷ []) ≡ 0x3BA1
unfolding crc_from register_after
header = refl

low_byte_first : number Little (0x78 ∷ 0x56 ∷ 0x34 ∷ 0x12 ∷ []) ≡ 0x12345678
low_byte_first = refl

high_byte_first : number Big (0x12 ∷ 0x34 ∷ 0x56 ∷ 0x78 ∷ []) ≡ 0x12345678
high_byte_first = refl

greatest_with_sign : twos_complement 1 0x7F ≡ pos 127
greatest_with_sign = refl

least_with_sign : twos_complement 1 0x80 ≡ negsuc 127
least_with_sign = refl

below_zero : as_unsigned 2 (negsuc 1) ≡ 0xFFFE
below_zero = refl

known_code : base_type 0x86 ≡ Some Uint32
known_code = refl

wide_code : base_type 0x8E ≡ Some Sint64
wide_code = refl

-- a byte that names no type
unknown_code : base_type 0x91 ≡ None
unknown_code = refl

two_values : count_of record { base = 0x83; arch = Big; bytes = 0x00 ∷ 0x01 ∷ 0xFF ∷ 0xFE ∷ [] } ≡ 2
two_values = refl

second_value : signed_at record { base = 0x83; arch = Big; bytes = 0x00 ∷ 0x01 ∷ 0xFF ∷ 0xFE ∷ [] } 1 ≡ negsuc 1
second_value = refl

ragged : is_raw record { base = 0x83; arch = Big; bytes = 0x00 ∷ 0x01 ∷ 0xFF ∷ [] } ≡ true
ragged = refl
