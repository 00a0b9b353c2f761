-- The register of the checksum is linear over exclusive or, so a table can take a whole byte at once: for `Crc::add`
-- and `Crc32::add`.
use Rattle.std.proofs.Common.{◌≡◌, ℕ, zero, suc, ◌+◌, ◌*◌, ◌/◌, ◌%◌, ◌^◌, ◌<◌, List, [], ◌∷◌, ◌++◌, fold, flat_map, bit_xor, refl, sym, ap, ◌∙◌, arith, ◌==◌, if◌then◌else◌, append-nil, get_or, take, drop, take-add, take-append-drop, length, pow-suc, mul_assoc, div-add-mod'}
use Rattle.std.proofs.Math.Nat.{mod-lt, mod-eq_of_lt, div-div-eq-div-mul}
use Rattle.std.proofs.lemmas.Nat.{xor_shr, xor_mod, xor_block, xor_comm, pow_pos}
use Rattle.std.proofs.lemmas.List.{take_more}
use Rattle.std.proofs.lemmas.Grind.{flat_map-append, fold-append}
use Rattle.std.specs.Int.Bits.{xor_assoc, xor_self, xor_zero_r}
use Rattle.fit_base.specs.Checksum.{bit_step, bits_of, all_bits, crc32_from, crc32_polynomial, crc_from, fit_polynomial, register_after}

-- the n low bits of a byte, the low one first
unfoldable pub low_bits : ℕ → ℕ → List ℕ
low_bits zero byte = []
low_bits (suc n) byte = byte % 2 ∷ low_bits n (byte / 2)

pub bits_of-low_bits : (byte : ℕ) → bits_of byte ≡ low_bits 8 byte
unfolding low_bits
bits_of-low_bits byte = simp div-div-eq-div-mul

-- the middle two of four may be swapped
pub xor_swap : (p q r s : ℕ) → bit_xor (bit_xor p q) (bit_xor r s) ≡ bit_xor (bit_xor p r) (bit_xor q s)
xor_swap p q r s =
    xor_assoc p q (bit_xor r s)
    ∙ ap (bit_xor p) (sym (xor_assoc q r s) ∙ ap (λ (x : ℕ). bit_xor x s) (xor_comm q r) ∙ xor_assoc r q s)
    ∙ sym (xor_assoc p r (bit_xor q s))

-- the last of three may come before the middle one
xor_right : (p q r : ℕ) → bit_xor (bit_xor p q) r ≡ bit_xor (bit_xor p r) q
xor_right p q r = xor_assoc p q r ∙ ap (bit_xor p) (xor_comm q r) ∙ sym (xor_assoc p r q)

-- a register is its high part and its low part
pub split_at : (n x : ℕ) → bit_xor (x / 2 ^ n * 2 ^ n) (x % 2 ^ n) ≡ x
split_at n x =
    let room = pow_pos n in
    let low = mod-lt x room in
    let block = xor_block n (x / 2 ^ n) 0 0 (x % 2 ^ n) room low in
    let high : bit_xor (x / 2 ^ n) 0 ≡ x / 2 ^ n = xor_zero_r (x / 2 ^ n) in
    let left : x / 2 ^ n * 2 ^ n + 0 ≡ x / 2 ^ n * 2 ^ n = omega arith in
    let right : 0 * 2 ^ n + x % 2 ^ n ≡ x % 2 ^ n = omega arith in
    let block2 : bit_xor (x / 2 ^ n * 2 ^ n) (x % 2 ^ n) ≡ bit_xor (x / 2 ^ n) 0 * 2 ^ n + x % 2 ^ n = rw (left, right) at block in
    block2 ∙ ap (λ (h : ℕ). h * 2 ^ n + x % 2 ^ n) high ∙ div-add-mod' x (2 ^ n)

module _ (polynomial : ℕ) where
  -- what a low bit of 0 or 1 adds to the shifted register
  unfoldable pub tap : ℕ → ℕ
  tap zero = 0
  tap (suc n) = polynomial

  -- the register after one bit that is already in it
  unfoldable pub shift : ℕ → ℕ
  shift x = bit_xor (x / 2) (tap (x % 2))

  -- the register after n such bits
  unfoldable pub shifts : ℕ → ℕ → ℕ
  shifts zero x = x
  shifts (suc n) x = shifts n (shift x)

  -- a step is a shift, whatever its half and its low bit are
  step_by : (h r : ℕ) → r < 2 → (if r == 1 then bit_xor h polynomial else h) ≡ bit_xor h (tap r)
  unfolding tap
  step_by h zero below = sym (xor_zero_r h)
  step_by h (suc zero) below = refl
  step_by h (suc (suc r)) below = absurd (omega arith)

  tap-xor : (r s : ℕ) → r < 2 → s < 2 → tap (bit_xor r s) ≡ bit_xor (tap r) (tap s)
  unfolding tap
  tap-xor zero zero p q = refl
  tap-xor zero (suc zero) p q = sym (xor_comm 0 polynomial ∙ xor_zero_r polynomial)
  tap-xor (suc zero) zero p q = sym (xor_zero_r polynomial)
  tap-xor (suc zero) (suc zero) p q = sym (xor_self polynomial)
  tap-xor (suc (suc r)) s p q = absurd (omega arith)
  tap-xor zero (suc (suc s)) p q = absurd (omega arith)
  tap-xor (suc zero) (suc (suc s)) p q = absurd (omega arith)

  pub shift-xor : (a b : ℕ) → shift (bit_xor a b) ≡ bit_xor (shift a) (shift b)
  unfolding shift
  shift-xor a b =
      let half = xor_shr a b 1 in
      let low = xor_mod a b 1 in
      let taps = tap-xor (a % 2) (b % 2) (mod-lt a (omega arith)) (mod-lt b (omega arith)) in
      ap (λ (x : ℕ). bit_xor x (tap (bit_xor a b % 2))) half
      ∙ ap (λ (x : ℕ). bit_xor (bit_xor (a / 2) (b / 2)) x) (ap tap low ∙ taps)
      ∙ xor_swap (a / 2) (b / 2) (tap (a % 2)) (tap (b % 2))

  pub shifts-xor : (n a b : ℕ) → shifts n (bit_xor a b) ≡ bit_xor (shifts n a) (shifts n b)
  unfolding shifts
  shifts-xor zero a b = refl
  shifts-xor (suc n) a b = ap (shifts n) (shift-xor a b) ∙ shifts-xor n (shift a) (shift b)

  pub shifts-zero : (n : ℕ) → shifts n 0 ≡ 0
  unfolding shifts shift tap
  shifts-zero zero = refl
  shifts-zero (suc n) = shifts-zero n

  pub shifts-add : (m n x : ℕ) → shifts (m + n) x ≡ shifts n (shifts m x)
  unfolding shifts
  shifts-add zero n x = let e : 0 + n ≡ n = omega arith in ap (λ (k : ℕ). shifts k x) e
  shifts-add (suc m) n x =
      let e : suc m + n ≡ suc (m + n) = omega arith in
      ap (λ (k : ℕ). shifts k x) e ∙ shifts-add m n (shift x)

  -- a register whose low bit is clear is only shifted
  shift-double : (y : ℕ) → shift (y * 2) ≡ y
  unfolding shift tap
  shift-double y =
      let half : y * 2 / 2 ≡ y = omega arith in
      let low : y * 2 % 2 ≡ 0 = omega arith in
      rw (half, low) (xor_zero_r y)

  pub shifts-high : (n y : ℕ) → shifts n (y * 2 ^ n) ≡ y
  unfolding shifts
  shifts-high zero y = omega arith
  shifts-high (suc n) y =
      let e : y * 2 ^ suc n ≡ y * 2 ^ n * 2 = ap (λ (p : ℕ). y * p) (pow-suc 2 n) ∙ sym (mul_assoc y (2 ^ n) 2) in
      ap (λ (x : ℕ). shifts n (shift x)) e ∙ ap (shifts n) (shift-double (y * 2 ^ n)) ∙ shifts-high n y

  -- one bit goes into the register, and the other bits of its byte with it
  step_with : (register byte : ℕ) → bit_xor (bit_step polynomial register (byte % 2)) (byte / 2) ≡ shift (bit_xor register byte)
  unfolding shift
  step_with register byte =
      let bit = byte % 2 in
      let bit_below : byte % 2 < 2 = mod-lt byte (omega arith) in
      let mixed = bit_xor register bit % 2 in
      let same : bit_xor register (byte % 2) % 2 ≡ bit_xor register byte % 2 =
      xor_mod register (byte % 2) 1 ∙ ap (bit_xor (register % 2)) (mod-eq_of_lt bit_below) ∙ sym (xor_mod register byte 1) in
      let step : bit_step polynomial register (byte % 2) ≡ bit_xor (register / 2) (tap (bit_xor register byte % 2)) =
      step_by (register / 2) (bit_xor register (byte % 2) % 2) (mod-lt (bit_xor register (byte % 2)) (omega arith))
      ∙ ap (λ (x : ℕ). bit_xor (register / 2) (tap x)) same in
      ap (λ (x : ℕ). bit_xor x (byte / 2)) step
      ∙ xor_right (register / 2) (tap (bit_xor register byte % 2)) (byte / 2)
      ∙ ap (λ (x : ℕ). bit_xor x (tap (bit_xor register byte % 2))) (sym (xor_shr register byte 1))

  -- taking the bits of a byte one after another is the same as putting the byte in at once
  pub fold-low_bits : (n register byte : ℕ) → byte < 2 ^ n → fold (bit_step polynomial) register (low_bits n byte) ≡ shifts n (bit_xor register byte)
  unfolding shifts low_bits
  fold-low_bits zero register byte below =
      let e : byte ≡ 0 = omega arith in rw e (sym (xor_zero_r register))
  fold-low_bits (suc n) register byte below =
      let twice : byte < 2 ^ n * 2 = omega (arith, pow-suc 2 n) in
      let half_below : byte / 2 < 2 ^ n = omega arith in
      fold-low_bits n (bit_step polynomial register (byte % 2)) (byte / 2) half_below
      ∙ ap (shifts n) (step_with register byte)

  -- a byte is eight bits that are put in at once
  pub register_after-byte : (register byte : ℕ) → byte < 256 → register_after polynomial register (byte ∷ []) ≡ shifts 8 (bit_xor register byte)
  unfolding register_after
  register_after-byte register byte below =
      ap (fold (bit_step polynomial) register) (append-nil (bits_of byte) ∙ bits_of-low_bits byte)
      ∙ fold-low_bits 8 register byte below

  pub register_after-append : (register : ℕ) (xs ys : List ℕ) → register_after polynomial register (xs ++ ys) ≡ register_after polynomial (register_after polynomial register xs) ys
  unfolding register_after
  register_after-append register xs ys =
      ap (fold (bit_step polynomial) register) (flat_map-append bits_of xs ys)
      ∙ fold-append (bit_step polynomial) register (flat_map bits_of xs) (flat_map bits_of ys)

  -- the low bits of a register on their own, and the others shifted down
  pub shifts-low : (n x : ℕ) → shifts n x ≡ bit_xor (x / 2 ^ n) (shifts n (x % 2 ^ n))
  shifts-low n x =
      ap (shifts n) (sym (split_at n x))
      ∙ shifts-xor n (x / 2 ^ n * 2 ^ n) (x % 2 ^ n)
      ∙ ap (λ (h : ℕ). bit_xor h (shifts n (x % 2 ^ n))) (shifts-high n (x / 2 ^ n))

  -- of a byte
  pub shifts-byte : (x : ℕ) → shifts 8 x ≡ bit_xor (x / 256) (shifts 8 (x % 256))
  shifts-byte x = shifts-low 8 x

  -- one more byte
  pub register_after-next : (register : ℕ) (bytes : List ℕ) (i : ℕ) → i < length bytes
      → register_after polynomial (register_after polynomial register (take i bytes)) (get_or bytes i 0 ∷ []) ≡ register_after polynomial register (take (i + 1) bytes)
  register_after-next register bytes i below =
      sym (register_after-append register (take i bytes) (get_or bytes i 0 ∷ []))
      ∙ ap (register_after polynomial register) (sym (take_more bytes i 0 below))

  -- some more bytes
  pub register_after-take : (register : ℕ) (bytes : List ℕ) (i n : ℕ)
      → register_after polynomial (register_after polynomial register (take i bytes)) (take n (drop i bytes)) ≡ register_after polynomial register (take (i + n) bytes)
  register_after-take register bytes i n =
      sym (register_after-append register (take i bytes) (take n (drop i bytes)))
      ∙ ap (register_after polynomial register) (sym (take-add i n bytes))

  pub register_after-drop : (register : ℕ) (bytes : List ℕ) (i : ℕ)
      → register_after polynomial (register_after polynomial register (take i bytes)) (drop i bytes) ≡ register_after polynomial register bytes
  register_after-drop register bytes i =
      sym (register_after-append register (take i bytes) (drop i bytes)) ∙ ap (register_after polynomial register) (take-append-drop i bytes)

-- of a FIT file
pub crc_from-nil : (register : ℕ) → crc_from register [] ≡ register
unfolding crc_from register_after
crc_from-nil register = refl

pub crc_from-byte : (register byte : ℕ) → byte < 256 → crc_from register (byte ∷ []) ≡ shifts fit_polynomial 8 (bit_xor register byte)
unfolding crc_from
crc_from-byte register byte below = register_after-byte fit_polynomial register byte below

pub crc_from-append : (register : ℕ) (xs ys : List ℕ) → crc_from register (xs ++ ys) ≡ crc_from (crc_from register xs) ys
unfolding crc_from
crc_from-append register xs ys = register_after-append fit_polynomial register xs ys

pub crc_from-next : (register : ℕ) (bytes : List ℕ) (i : ℕ) → i < length bytes
    → crc_from (crc_from register (take i bytes)) (get_or bytes i 0 ∷ []) ≡ crc_from register (take (i + 1) bytes)
unfolding crc_from
crc_from-next register bytes i below = register_after-next fit_polynomial register bytes i below

pub crc_from-take : (register : ℕ) (bytes : List ℕ) (i n : ℕ)
    → crc_from (crc_from register (take i bytes)) (take n (drop i bytes)) ≡ crc_from register (take (i + n) bytes)
unfolding crc_from
crc_from-take register bytes i n = register_after-take fit_polynomial register bytes i n

pub crc_from-drop : (register : ℕ) (bytes : List ℕ) (i : ℕ)
    → crc_from (crc_from register (take i bytes)) (drop i bytes) ≡ crc_from register bytes
unfolding crc_from
crc_from-drop register bytes i = register_after-drop fit_polynomial register bytes i

-- of zlib: what is turned twice is as it was
turned_twice : (x : ℕ) → bit_xor (bit_xor x all_bits) all_bits ≡ x
turned_twice x = xor_assoc x all_bits all_bits ∙ ap (bit_xor x) (xor_self all_bits) ∙ xor_zero_r x

pub crc32_from-nil : (checksum : ℕ) → crc32_from checksum [] ≡ checksum
unfolding crc32_from register_after
crc32_from-nil checksum = turned_twice checksum

-- the checksum of more bytes is the checksum gone on
pub crc32_from-append : (checksum : ℕ) (xs ys : List ℕ) → crc32_from checksum (xs ++ ys) ≡ crc32_from (crc32_from checksum xs) ys
unfolding crc32_from
crc32_from-append checksum xs ys =
    let first = register_after crc32_polynomial (bit_xor checksum all_bits) xs in
    ap (λ (r : ℕ). bit_xor r all_bits)
    (register_after-append crc32_polynomial (bit_xor checksum all_bits) xs ys
    ∙ ap (λ (r : ℕ). register_after crc32_polynomial r ys) (sym (turned_twice first)))

pub crc32_from-take : (checksum : ℕ) (bytes : List ℕ) (i n : ℕ)
    → crc32_from (crc32_from checksum (take i bytes)) (take n (drop i bytes)) ≡ crc32_from checksum (take (i + n) bytes)
crc32_from-take checksum bytes i n =
    sym (crc32_from-append checksum (take i bytes) (take n (drop i bytes)))
    ∙ ap (crc32_from checksum) (sym (take-add i n bytes))
