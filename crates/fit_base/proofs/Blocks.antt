-- The register after a block of bytes, each byte taken by itself: for `after_block` and `after_byte` of both checksums.
use Rattle.std.proofs.Common.{◌≡◌, ℕ, zero, suc, ◌+◌, ◌-◌, ◌*◌, ◌/◌, ◌%◌, ◌<◌, ◌≤◌, List, [], ◌∷◌, length, drop, get_or, replicate, bit_xor, refl, sym, ap, ◌∙◌, arith, drop-cons, get_or-drop, mod-lt, length-drop, drop_of_length-le, ap₂}
use Rattle.std.proofs.lemmas.Nat.{xor_comm, xor_of_8}
use Rattle.std.specs.Int.Bits.{xor_assoc, xor_zero_r}
use Rattle.fit_base.specs.Checksum.{crc_from, crc, fit_polynomial, register_after}
use Rattle.fit_base.proofs.Register.{shifts, shifts-xor, shifts-add, shifts-high, shifts-byte, split_at, xor_swap, register_after-byte, register_after-append}

module _ (polynomial : ℕ) where
  pub after-nil : (register : ℕ) → register_after polynomial register [] ≡ register
  unfolding register_after
  after-nil register = refl

  pub after-cons : (register byte : ℕ) (bytes : List ℕ) → byte < 256
      → register_after polynomial register (byte ∷ bytes) ≡ register_after polynomial (shifts polynomial 8 (bit_xor register byte)) bytes
  after-cons register byte bytes below =
      register_after-append polynomial register (byte ∷ []) bytes ∙ ap (λ (r : ℕ). register_after polynomial r bytes) (register_after-byte polynomial register byte below)

  -- a part of the register moves to the end on its own
  pub after-xor : (a c : ℕ) (bytes : List ℕ) → ((k : ℕ) → get_or bytes k 0 < 256)
      → register_after polynomial (bit_xor a c) bytes ≡ bit_xor (shifts polynomial (8 * length bytes) a) (register_after polynomial c bytes)
  unfolding shifts
  after-xor a c [] all = after-nil (bit_xor a c) ∙ ap (bit_xor a) (sym (after-nil c))
  after-xor a c (byte ∷ bytes) all =
      let more : 8 + 8 * length bytes ≡ 8 * suc (length bytes) = omega arith in
      after-cons (bit_xor a c) byte bytes (all 0)
      ∙ ap (λ (r : ℕ). register_after polynomial (shifts polynomial 8 r) bytes) (xor_assoc a c byte)
      ∙ ap (λ (r : ℕ). register_after polynomial r bytes) (shifts-xor polynomial 8 a (bit_xor c byte))
      ∙ after-xor (shifts polynomial 8 a) (shifts polynomial 8 (bit_xor c byte)) bytes (λ k. all (suc k))
      ∙ ap (λ (r : ℕ). bit_xor r (register_after polynomial (shifts polynomial 8 (bit_xor c byte)) bytes))
      (sym (shifts-add polynomial 8 (8 * length bytes) a) ∙ ap (λ (n : ℕ). shifts polynomial n a) more)
      ∙ ap (bit_xor (shifts polynomial (8 * suc (length bytes)) a)) (sym (after-cons c byte bytes (all 0)))

  -- and so does the first of the bytes
  first_byte : (byte : ℕ) (bytes : List ℕ) → byte < 256 → ((k : ℕ) → get_or bytes k 0 < 256)
      → register_after polynomial 0 (byte ∷ bytes) ≡ bit_xor (shifts polynomial (8 * suc (length bytes)) byte) (register_after polynomial 0 bytes)
  first_byte byte bytes below all =
      let more : 8 + 8 * length bytes ≡ 8 * suc (length bytes) = omega arith in
      after-cons 0 byte bytes below
      ∙ ap (λ (r : ℕ). register_after polynomial r bytes) (sym (xor_zero_r (shifts polynomial 8 byte)))
      ∙ after-xor (shifts polynomial 8 byte) 0 bytes all
      ∙ ap (λ (r : ℕ). bit_xor r (register_after polynomial 0 bytes)) (sym (shifts-add polynomial 8 (8 * length bytes) byte) ∙ ap (λ (n : ℕ). shifts polynomial n byte) more)

  -- zero bytes after a register only shift it
  after-zeros : (n register : ℕ) → register_after polynomial register (replicate n 0) ≡ shifts polynomial (8 * n) register
  unfolding shifts
  after-zeros zero register = after-nil register
  after-zeros (suc n) register =
      let more : 8 + 8 * n ≡ 8 * suc n = omega arith in
      after-cons register 0 (replicate n 0) (omega arith)
      ∙ ap (λ (r : ℕ). register_after polynomial (shifts polynomial 8 r) (replicate n 0)) (xor_zero_r register)
      ∙ after-zeros n (shifts polynomial 8 register)
      ∙ sym (shifts-add polynomial 8 (8 * n) register)
      ∙ ap (λ (k : ℕ). shifts polynomial k register) more

  pub byte-zeros : (byte n : ℕ) → byte < 256 → register_after polynomial 0 (byte ∷ replicate n 0) ≡ shifts polynomial (8 * suc n) byte
  byte-zeros byte n below =
      let more : 8 + 8 * n ≡ 8 * suc n = omega arith in
      after-cons 0 byte (replicate n 0) below
      ∙ after-zeros n (shifts polynomial 8 byte)
      ∙ sym (shifts-add polynomial 8 (8 * n) byte)
      ∙ ap (λ (k : ℕ). shifts polynomial k byte) more

  -- one byte, by its entry
  pub by_entry_of : (register byte : ℕ) → byte < 256
      → bit_xor (register / 256) (register_after polynomial 0 (bit_xor (register % 256) byte ∷ replicate 0 0)) ≡ register_after polynomial register (byte ∷ [])
  by_entry_of register byte below =
      let low : register % 256 < 256 = mod-lt register (omega arith) in
      let mixed = xor_of_8 (register % 256) byte low below in
      ap (bit_xor (register / 256)) (byte-zeros (bit_xor (register % 256) byte) 0 mixed ∙ shifts-xor polynomial 8 (register % 256) byte)
      ∙ sym (xor_assoc (register / 256) (shifts polynomial 8 (register % 256)) (shifts polynomial 8 byte))
      ∙ ap (λ (r : ℕ). bit_xor r (shifts polynomial 8 byte)) (sym (shifts-byte polynomial register))
      ∙ sym (shifts-xor polynomial 8 register byte)
      ∙ sym (register_after-byte polynomial register byte below)

  -- the register before a block of sixteen, by its two bytes
  register_before : (register : ℕ) → shifts polynomial 128 register ≡ bit_xor (shifts polynomial 120 (register / 256)) (shifts polynomial 128 (register % 256))
  register_before register =
      ap (shifts polynomial 128) (sym (split_at 8 register))
      ∙ shifts-xor polynomial 128 (register / 256 * 256) (register % 256)
      ∙ ap (λ (r : ℕ). bit_xor r (shifts polynomial 128 (register % 256)))
      (shifts-add polynomial 8 120 (register / 256 * 256) ∙ ap (shifts polynomial 120) (shifts-high polynomial 8 (register / 256)))

  -- the bytes of a list from a place on, with the first on its own
  from_place : (bytes : List ℕ) (i : ℕ) → ((k : ℕ) → get_or bytes k 0 < 256) → i < length bytes
      → register_after polynomial 0 (drop i bytes) ≡ bit_xor (shifts polynomial (8 * (length bytes - i)) (get_or bytes i 0)) (register_after polynomial 0 (drop (suc i) bytes))
  from_place bytes i all below =
      let rest : (k : ℕ) → get_or (drop (suc i) bytes) k 0 < 256 = λ k. rw (get_or-drop (suc i) bytes k 0) (all (suc i + k)) in
      let len : 8 * suc (length (drop (suc i) bytes)) ≡ 8 * (length bytes - i) = omega (arith, length-drop (suc i) bytes) in
      ap (register_after polynomial 0) (drop-cons bytes i 0 below)
      ∙ first_byte (get_or bytes i 0) (drop (suc i) bytes) (all i) rest
      ∙ ap (λ (n : ℕ). bit_xor (shifts polynomial n (get_or bytes i 0)) (register_after polynomial 0 (drop (suc i) bytes))) len

  -- what the register before and the first two bytes give, put together
  joined : (high low a b rest : ℕ) → bit_xor (bit_xor high low) (bit_xor a (bit_xor b rest)) ≡ bit_xor
      (bit_xor (bit_xor low a) (bit_xor high b)) rest
  joined high low a b rest =
      ap (λ (x : ℕ). bit_xor x (bit_xor a (bit_xor b rest))) (xor_comm high low)
      ∙ xor_swap low high a (bit_xor b rest)
      ∙ ap (bit_xor (bit_xor low a)) (sym (xor_assoc high b rest))
      ∙ sym (xor_assoc (bit_xor low a) (bit_xor high b) rest)

  -- the register after a byte and k zero bytes
  abbrev pub entry_of : ℕ → ℕ → ℕ
  entry_of k byte = register_after polynomial 0 (byte ∷ replicate k 0)

  -- a byte of sixteen by its entry, where k bytes follow it
  next_entry : (block : List ℕ) (i k : ℕ) → length block ≡ 16 → ((k : ℕ) → get_or block k 0 < 256) → i + suc k ≡ 16
      → register_after polynomial 0 (drop i block) ≡ bit_xor (entry_of k (get_or block i 0)) (register_after polynomial 0 (drop (suc i) block))
  next_entry block i k len all place =
      let left : 8 * (length block - i) ≡ 8 * suc k = omega arith in
      from_place block i all (omega arith)
      ∙ ap (λ (n : ℕ). bit_xor (shifts polynomial n (get_or block i 0)) (register_after polynomial 0 (drop (suc i) block))) left
      ∙ ap (λ (r : ℕ). bit_xor r (register_after polynomial 0 (drop (suc i) block))) (sym (byte-zeros (get_or block i 0) k (all i)))

  -- the entries before it were put together
  one_more : (block : List ℕ) (before i k : ℕ) → length block ≡ 16 → ((k : ℕ) → get_or block k 0 < 256) → i + suc k ≡ 16
      → bit_xor (bit_xor before (entry_of k (get_or block i 0))) (register_after polynomial 0 (drop (suc i) block)) ≡ bit_xor before (register_after polynomial 0 (drop i block))
  one_more block before i k len all place =
      xor_assoc before (entry_of k (get_or block i 0)) (register_after polynomial 0 (drop (suc i) block))
      ∙ ap (bit_xor before) (sym (next_entry block i k len all place))

  -- the last fourteen of sixteen, put together from the left
  abbrev pub last_of : List ℕ → ℕ
  last_of block =
      bit_xor (bit_xor (bit_xor (bit_xor (bit_xor (bit_xor (bit_xor (bit_xor (bit_xor (bit_xor (bit_xor (bit_xor (bit_xor
      (entry_of 13 (get_or block 2 0)) (entry_of 12 (get_or block 3 0))) (entry_of 11 (get_or block 4 0)))
      (entry_of 10 (get_or block 5 0))) (entry_of 9 (get_or block 6 0))) (entry_of 8 (get_or block 7 0)))
      (entry_of 7 (get_or block 8 0))) (entry_of 6 (get_or block 9 0))) (entry_of 5 (get_or block 10 0)))
      (entry_of 4 (get_or block 11 0))) (entry_of 3 (get_or block 12 0))) (entry_of 2 (get_or block 13 0)))
      (entry_of 1 (get_or block 14 0))) (entry_of 0 (get_or block 15 0))

  last_entries : (block : List ℕ) → length block ≡ 16 → ((k : ℕ) → get_or block k 0 < 256) → last_of block ≡ register_after polynomial 0 (drop 2 block)
  last_entries block len all =
      let few : length block ≤ 16 = omega arith in
      let none : drop 16 block ≡ [] = drop_of_length-le block few in
      let e2 = entry_of 13 (get_or block 2 0) in
      let e3 = bit_xor e2 (entry_of 12 (get_or block 3 0)) in
      let e4 = bit_xor e3 (entry_of 11 (get_or block 4 0)) in
      let e5 = bit_xor e4 (entry_of 10 (get_or block 5 0)) in
      let e6 = bit_xor e5 (entry_of 9 (get_or block 6 0)) in
      let e7 = bit_xor e6 (entry_of 8 (get_or block 7 0)) in
      let e8 = bit_xor e7 (entry_of 7 (get_or block 8 0)) in
      let e9 = bit_xor e8 (entry_of 6 (get_or block 9 0)) in
      let e10 = bit_xor e9 (entry_of 5 (get_or block 10 0)) in
      let e11 = bit_xor e10 (entry_of 4 (get_or block 11 0)) in
      let e12 = bit_xor e11 (entry_of 3 (get_or block 12 0)) in
      let e13 = bit_xor e12 (entry_of 2 (get_or block 13 0)) in
      let e14 = bit_xor e13 (entry_of 1 (get_or block 14 0)) in
      let e15 = bit_xor e14 (entry_of 0 (get_or block 15 0)) in
      sym (ap (bit_xor e15) (ap (register_after polynomial 0) none ∙ after-nil 0) ∙ xor_zero_r e15)
      ∙ one_more block e14 15 0 len all refl
      ∙ one_more block e13 14 1 len all refl
      ∙ one_more block e12 13 2 len all refl
      ∙ one_more block e11 12 3 len all refl
      ∙ one_more block e10 11 4 len all refl
      ∙ one_more block e9 10 5 len all refl
      ∙ one_more block e8 9 6 len all refl
      ∙ one_more block e7 8 7 len all refl
      ∙ one_more block e6 7 8 len all refl
      ∙ one_more block e5 6 9 len all refl
      ∙ one_more block e4 5 10 len all refl
      ∙ one_more block e3 4 11 len all refl
      ∙ one_more block e2 3 12 len all refl
      ∙ sym (next_entry block 2 13 len all refl)

  -- a byte of the register before is combined with a byte of the block
  mixed_entry : (k part byte : ℕ) → part < 256 → byte < 256
      → entry_of k (bit_xor part byte) ≡ bit_xor (shifts polynomial (8 * suc k) part) (entry_of k byte)
  mixed_entry k part byte part_below below =
      byte-zeros (bit_xor part byte) k (xor_of_8 part byte part_below below)
      ∙ shifts-xor polynomial (8 * suc k) part byte
      ∙ ap (bit_xor (shifts polynomial (8 * suc k) part)) (sym (byte-zeros byte k below))

  -- the two entries that need the register come last; they may also come first
  two_first : (rest p q : ℕ) → bit_xor (bit_xor rest p) q ≡ bit_xor (bit_xor p q) rest
  two_first rest p q = xor_assoc rest p q ∙ xor_comm rest (bit_xor p q)

  -- a block of sixteen, by its entries
  by_two_entries : (register : ℕ) (block : List ℕ) → register < 65536 → length block ≡ 16
      → ((k : ℕ) → get_or block k 0 < 256)
      → bit_xor (bit_xor (last_of block) (entry_of 15 (bit_xor (register % 256) (get_or block 0 0))))
      (entry_of 14 (bit_xor (register / 256) (get_or block 1 0))) ≡ register_after polynomial register block
  by_two_entries register block fits len all =
      let low : register % 256 < 256 = mod-lt register (omega arith) in
      let high : register / 256 < 256 = omega arith in
      let whole : 8 * length block ≡ 128 = omega arith in
      let first = mixed_entry 15 (register % 256) (get_or block 0 0) low (all 0) in
      let second = mixed_entry 14 (register / 256) (get_or block 1 0) high (all 1) in
      two_first (last_of block) (entry_of 15 (bit_xor (register % 256) (get_or block 0 0)))
      (entry_of 14 (bit_xor (register / 256) (get_or block 1 0)))
      ∙ ap (bit_xor (bit_xor (entry_of 15 (bit_xor (register % 256) (get_or block 0 0)))
      (entry_of 14 (bit_xor (register / 256) (get_or block 1 0))))) (last_entries block len all)
      ∙ ap₂ (λ (p q : ℕ). bit_xor (bit_xor p q) (register_after polynomial 0 (drop 2 block))) first second
      ∙ sym (joined (shifts polynomial 120 (register / 256)) (shifts polynomial 128 (register % 256)) (entry_of 15 (get_or block 0 0))
      (entry_of 14 (get_or block 1 0)) (register_after polynomial 0 (drop 2 block)))
      ∙ ap₂ bit_xor (sym (register_before register)) (sym
      (next_entry block 0 15 len all refl ∙ ap (bit_xor (entry_of 15 (get_or block 0 0))) (next_entry block 1 14 len all refl)))
      ∙ ap (λ (n : ℕ). bit_xor (shifts polynomial n register) (register_after polynomial 0 block)) (sym whole)
      ∙ sym (after-xor register 0 block all)
      ∙ ap (λ (r : ℕ). register_after polynomial r block) (xor_zero_r register)

  -- the first of the bytes with the low byte of the register, and the rest with what is left of it
  mixed_step : (register byte : ℕ) (bytes : List ℕ) → byte < 256 → ((k : ℕ) → get_or bytes k 0 < 256)
      → register_after polynomial register (byte ∷ bytes)
      ≡ bit_xor (entry_of (length bytes) (bit_xor (register % 256) byte)) (register_after polynomial (register / 256) bytes)
  mixed_step register byte bytes below all =
      let mixed = bit_xor (register % 256) byte in
      let mixed_below : mixed < 256 = xor_of_8 (register % 256) byte (mod-lt register (omega arith)) below in
      let more : 8 + 8 * length bytes ≡ 8 * suc (length bytes) = omega arith in
      let split : shifts polynomial 8 (bit_xor register byte) ≡ bit_xor (shifts polynomial 8 mixed) (register / 256) =
      shifts-xor polynomial 8 register byte
      ∙ ap (λ (r : ℕ). bit_xor r (shifts polynomial 8 byte)) (shifts-byte polynomial register)
      ∙ xor_assoc (register / 256) (shifts polynomial 8 (register % 256)) (shifts polynomial 8 byte)
      ∙ ap (bit_xor (register / 256)) (sym (shifts-xor polynomial 8 (register % 256) byte))
      ∙ xor_comm (register / 256) (shifts polynomial 8 mixed) in
      after-cons register byte bytes below
      ∙ ap (λ (r : ℕ). register_after polynomial r bytes) split
      ∙ after-xor (shifts polynomial 8 mixed) (register / 256) bytes all
      ∙ ap (λ (r : ℕ). bit_xor r (register_after polynomial (register / 256) bytes))
      (sym (shifts-add polynomial 8 (8 * length bytes) mixed) ∙ ap (λ (n : ℕ). shifts polynomial n mixed) more
      ∙ sym (byte-zeros mixed (length bytes) mixed_below))

  module _ (block : List ℕ) (len : length block ≡ 16) (all : (k : ℕ) → get_or block k 0 < 256) where
    -- a byte of sixteen, where k bytes follow it
    mixed_at : (register i k : ℕ) → i + suc k ≡ 16 → register_after polynomial register (drop i block)
        ≡ bit_xor (entry_of k (bit_xor (register % 256) (get_or block i 0))) (register_after polynomial (register / 256) (drop (suc i) block))
    mixed_at register i k place =
        let rest : (k : ℕ) → get_or (drop (suc i) block) k 0 < 256 = λ k. rw (get_or-drop (suc i) block k 0) (all (suc i + k)) in
        let left : length (drop (suc i) block) ≡ k = omega (arith, length-drop (suc i) block) in
        ap (register_after polynomial register) (drop-cons block i 0 (omega arith))
        ∙ mixed_step register (get_or block i 0) (drop (suc i) block) (all i) rest
        ∙ ap (λ (n : ℕ). bit_xor (entry_of n (bit_xor (register % 256) (get_or block i 0))) (register_after polynomial (register / 256) (drop (suc i) block))) left

    -- a byte of the block and the k after it, each by its entry
    abbrev pub entries : ℕ → ℕ → ℕ
    entries i zero = entry_of 0 (get_or block i 0)
    entries i (suc k) = bit_xor (entry_of (suc k) (get_or block i 0)) (entries (suc i) k)

    last_are : (i k : ℕ) → i + suc k ≡ 16 → entries i k ≡ register_after polynomial 0 (drop i block)
    last_are i zero place =
        let few : length block ≤ suc i = omega arith in
        let none : drop (suc i) block ≡ [] = drop_of_length-le block few in
        sym (next_entry block i 0 len all place
        ∙ ap (bit_xor (entry_of 0 (get_or block i 0))) (ap (register_after polynomial 0) none ∙ after-nil 0)
        ∙ xor_zero_r (entry_of 0 (get_or block i 0)))
    last_are i (suc k) place =
        ap (bit_xor (entry_of (suc k) (get_or block i 0))) (last_are (suc i) k (omega arith))
        ∙ sym (next_entry block i (suc k) len all place)

    -- a block of sixteen by its entries, the first four with the bytes of a register of 32 bits
    pub by_four_entries : (register : ℕ) → register < 4294967296
        → bit_xor (entry_of 15 (bit_xor (register % 256) (get_or block 0 0)))
        (bit_xor (entry_of 14 (bit_xor (register / 256 % 256) (get_or block 1 0)))
        (bit_xor (entry_of 13 (bit_xor (register / 65536 % 256) (get_or block 2 0)))
        (bit_xor (entry_of 12 (bit_xor (register / 16777216 % 256) (get_or block 3 0))) (entries 4 11)))) ≡ register_after polynomial register block
    by_four_entries register fits =
        let second : register / 256 / 256 ≡ register / 65536 = omega arith in
        let third : register / 65536 / 256 ≡ register / 16777216 = omega arith in
        let none : register / 16777216 / 256 ≡ 0 = omega arith in
        let after = register_after polynomial in
        sym (mixed_at register 0 15 refl
        ∙ ap (bit_xor (entry_of 15 (bit_xor (register % 256) (get_or block 0 0))))
        (mixed_at (register / 256) 1 14 refl
        ∙ ap (bit_xor (entry_of 14 (bit_xor (register / 256 % 256) (get_or block 1 0))))
        (ap (λ (r : ℕ). register_after polynomial r (drop 2 block)) second
        ∙ mixed_at (register / 65536) 2 13 refl
        ∙ ap (bit_xor (entry_of 13 (bit_xor (register / 65536 % 256) (get_or block 2 0))))
        (ap (λ (r : ℕ). register_after polynomial r (drop 3 block)) third
        ∙ mixed_at (register / 16777216) 3 12 refl
        ∙ ap (bit_xor (entry_of 12 (bit_xor (register / 16777216 % 256) (get_or block 3 0))))
        (ap (λ (r : ℕ). register_after polynomial r (drop 4 block)) none
        ∙ sym (last_are 4 11 refl))))))

-- of a FIT file
pub crc-zeros : (byte n : ℕ) → byte < 256 → crc (byte ∷ replicate n 0) ≡ shifts fit_polynomial (8 * suc n) byte
unfolding crc_from
crc-zeros = byte-zeros fit_polynomial

pub by_entry : (register byte : ℕ) → byte < 256
    → bit_xor (register / 256) (crc (bit_xor (register % 256) byte ∷ replicate 0 0)) ≡ crc_from register (byte ∷ [])
unfolding crc_from
by_entry = by_entry_of fit_polynomial

abbrev pub file_entries : List ℕ → ℕ
file_entries block =
    bit_xor (bit_xor (bit_xor (bit_xor (bit_xor (bit_xor (bit_xor (bit_xor (bit_xor (bit_xor (bit_xor (bit_xor (bit_xor
    (crc (get_or block 2 0 ∷ replicate 13 0)) (crc (get_or block 3 0 ∷ replicate 12 0))) (crc (get_or block 4 0 ∷ replicate 11 0)))
    (crc (get_or block 5 0 ∷ replicate 10 0))) (crc (get_or block 6 0 ∷ replicate 9 0))) (crc (get_or block 7 0 ∷ replicate 8 0)))
    (crc (get_or block 8 0 ∷ replicate 7 0))) (crc (get_or block 9 0 ∷ replicate 6 0))) (crc (get_or block 10 0 ∷ replicate 5 0)))
    (crc (get_or block 11 0 ∷ replicate 4 0))) (crc (get_or block 12 0 ∷ replicate 3 0))) (crc (get_or block 13 0 ∷ replicate 2 0)))
    (crc (get_or block 14 0 ∷ replicate 1 0))) (crc (get_or block 15 0 ∷ replicate 0 0))

pub by_entries : (register : ℕ) (block : List ℕ) → register < 65536 → length block ≡ 16
    → ((k : ℕ) → get_or block k 0 < 256)
    → bit_xor (bit_xor (file_entries block) (crc (bit_xor (register % 256) (get_or block 0 0) ∷ replicate 15 0)))
    (crc (bit_xor (register / 256) (get_or block 1 0) ∷ replicate 14 0)) ≡ crc_from register block
unfolding crc_from
by_entries = by_two_entries fit_polynomial
