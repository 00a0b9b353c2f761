-- The tables of the checksums, each computed from the bits of the definition: for `entry` and `after_two`.
use Rattle.std.proofs.Common.{◌≡◌, ℕ, zero, suc, ◌+◌, ◌*◌, ◌/◌, ◌%◌, ◌<◌, List, [], ◌∷◌, get_or, map, length, bit_xor, refl, sym, ap, ◌∙◌, arith, mod-lt}
use Rattle.std.specs.List.{range_with_len}
use Rattle.std.proofs.lemmas.List.{get_or-map, length-map}
use Rattle.std.proofs.lemmas.List.FromFn.{get_or-map-range_with_len}
use Rattle.fit_base.specs.declared.checksum.tables.TheConstants as tables
use Rattle.fit_base.specs.declared.checksum32.tables.TheConstants as tables32
use Rattle.fit_base.specs.Checksum.{crc32_polynomial, fit_polynomial, register_after}
use Rattle.fit_base.proofs.Register.{register_after-byte, tap, shift, shifts, shifts-add, shifts-low}

module _ (polynomial : ℕ) where
  -- the entries of a table are their indices after so many bits
  abbrev pub table_of : ℕ → ℕ → List ℕ
  table_of bits count = map (shifts polynomial bits) (range_with_len 0 count)

  -- after a table so many more, each of them the one before it after eight more bits
  unfoldable pub tables_after : ℕ → List ℕ → List (List ℕ)
  tables_after zero table = []
  tables_after (suc more) table = map (shifts polynomial 8) table ∷ tables_after more (map (shifts polynomial 8) table)

  entry_first : (table : List ℕ) (bits count i : ℕ) → table ≡ table_of bits count → i < count → get_or table i 0 ≡ shifts polynomial bits i
  entry_first table bits count i is in_table =
      ap (λ xs. get_or xs i 0) is ∙ get_or-map-range_with_len (shifts polynomial bits) 0 count i i 0 in_table (omega arith)

  entry_next : (table : List ℕ) (i bits : ℕ) → i < length table → get_or table i 0 ≡ shifts polynomial bits i
      → get_or (map (shifts polynomial 8) table) i 0 ≡ shifts polynomial (bits + 8) i
  entry_next table i bits in_table entry =
      get_or-map (shifts polynomial 8) table i 0 0 in_table ∙ ap (shifts polynomial 8) entry ∙ sym (shifts-add polynomial bits 8 i)

  entry_after : (none table : List ℕ) (more k i bits : ℕ) → k < more → i < length table → get_or table i 0 ≡ shifts polynomial bits i
      → get_or (get_or (tables_after more table) k none) i 0 ≡ shifts polynomial (bits + 8 * suc k) i
  unfolding tables_after
  entry_after none table zero k i bits below in_table entry = absurd (omega (arith, below))
  entry_after none table (suc more) zero i bits below in_table entry = entry_next table i bits in_table entry
  entry_after none table (suc more) (suc k) i bits below in_table entry =
      let on : bits + 8 + 8 * suc k ≡ bits + 8 * suc (suc k) = omega arith in
      entry_after none (map (shifts polynomial 8) table) more k i (bits + 8) (omega (arith, below)) (omega (arith, in_table, length-map table (shifts polynomial 8))) (entry_next table i bits in_table entry)
      ∙ ap (λ (n : ℕ). shifts polynomial n i) on

-- that of a FIT file
first_table : tables.FIRST ≡ table_of fit_polynomial 8 256
unfolding shifts shift tap
first_table = refl

later_tables : tables.LATER ≡ tables_after fit_polynomial 15 tables.FIRST
unfolding tables_after shifts shift tap
later_tables = refl

pub get_or-FIRST : (i : ℕ) → i < 256 → get_or tables.FIRST i 0 ≡ shifts fit_polynomial 8 i
get_or-FIRST i in_table = entry_first fit_polynomial tables.FIRST 8 256 i first_table in_table

pub get_or-LATER : (none : List ℕ) (k i : ℕ) → k < 15 → i < 256 → get_or (get_or tables.LATER k none) i 0 ≡ shifts fit_polynomial (8 + 8 * suc k) i
get_or-LATER none k i below in_table =
    ap (λ (all : List (List ℕ)). get_or (get_or all k none) i 0) later_tables
    ∙ entry_after fit_polynomial none tables.FIRST 15 k i 8 below in_table (get_or-FIRST i in_table)

-- CRC-32
first_table32 : tables32.FIRST ≡ table_of crc32_polynomial 8 256
unfolding shifts shift tap
first_table32 = refl

later_tables32 : tables32.LATER ≡ tables_after crc32_polynomial 15 tables32.FIRST
unfolding tables_after shifts shift tap
later_tables32 = refl

pub get_or-FIRST32 : (i : ℕ) → i < 256 → get_or tables32.FIRST i 0 ≡ shifts crc32_polynomial 8 i
get_or-FIRST32 i in_table = entry_first crc32_polynomial tables32.FIRST 8 256 i first_table32 in_table

pub get_or-LATER32 : (none : List ℕ) (k i : ℕ) → k < 15 → i < 256 → get_or (get_or tables32.LATER k none) i 0 ≡ shifts crc32_polynomial (8 + 8 * suc k) i
get_or-LATER32 none k i below in_table =
    ap (λ (all : List (List ℕ)). get_or (get_or all k none) i 0) later_tables32
    ∙ entry_after crc32_polynomial none tables32.FIRST 15 k i 8 below in_table (get_or-FIRST32 i in_table)

-- each entry of its table of halves is the index after four bits
half_table : tables32.HALVES ≡ table_of crc32_polynomial 4 16
unfolding shifts shift tap
half_table = refl

-- four bits of a register, by their entry
half : (register low : ℕ) → low ≡ register % 16 → bit_xor (register / 16) (get_or tables32.HALVES low 0) ≡ shifts crc32_polynomial 4 register
half register low is =
    ap (λ (i : ℕ). bit_xor (register / 16) (get_or tables32.HALVES i 0)) is
    ∙ ap (bit_xor (register / 16)) (entry_first crc32_polynomial tables32.HALVES 4 16 (register % 16) half_table (mod-lt register (omega arith)))
    ∙ sym (shifts-low crc32_polynomial 4 register)

-- one byte, by its halves
pub by_halves : (register byte same low first high : ℕ) → byte < 256 → same ≡ byte → low ≡ bit_xor register same % 16
    → first ≡ bit_xor (bit_xor register same / 16) (get_or tables32.HALVES low 0) → high ≡ first % 16
    → bit_xor (first / 16) (get_or tables32.HALVES high 0) ≡ register_after crc32_polynomial register (byte ∷ [])
by_halves register byte same low first high below is low_is first_is high_is =
    let mixed = bit_xor register same in
    half first high high_is
    ∙ ap (shifts crc32_polynomial 4) (first_is ∙ half mixed low low_is)
    ∙ sym (shifts-add crc32_polynomial 4 4 mixed)
    ∙ ap (λ (b : ℕ). shifts crc32_polynomial 8 (bit_xor register b)) is
    ∙ sym (register_after-byte crc32_polynomial register byte below)
