-- A number of a setting fits into the bytes of its row: for `script/sample`.
use Rattle.std.proofs.Common.{◌≡◌, zero, suc, ◌≤◌, ◌<◌, ℕ, ℤ, List, [], ◌∷◌, Option, Some, None, Bool, true, false, refl, arith, tests, if◌then◌else◌}
use Rattle.std.specs.Prelude.{IfSome, option_map, ◌^◌, ◌+◌, ◌*◌, ◌||◌, nat_le, ◌&&◌, neg_ℤ, pos, ◌==◌}
use Rattle.std.specs.Option.{option_or, is_some}
use Rattle.std.specs.Str.{bytes_eq}
use Rattle.std.specs.List.{list_any}
use Rattle.std.specs.Str.Parse.{digits_value}
use Rattle.fit_base.specs.Base.{row_of}
use Rattle.fit_base.specs.Number.{as_unsigned}
use Rattle.fit_base.specs.declared.base.BaseType.{BaseType}
use Rattle.fit_base.specs.declared.base.BaseType.TheVariants.{Enum, Sint8, Uint8, Sint16, Uint16, Sint32, Uint32, String, Float32, Float64, Uint8z, Uint16z, Uint32z, Byte, Sint64, Uint64, Uint64z}
use Rattle.fit_activity.specs.Rides.Fields.{SampleField}
use Rattle.fit_activity.specs.Rides.Table.{ValuesFit}
use Rattle.fit_scripts.specs.Scripts.Words.{decimal_number, signed_number, number_as, is_numeral}
use Rattle.fit_scripts.specs.Scripts.Sample.{number_by, with_setting}

at_most : (b : Bool) (n most : ℕ) → (b && nat_le n most) ≡ true → n ≤ most
at_most true n most e = search tests
at_most false n most e = cc

some_at_most : (b : Bool) (n most bound : ℕ) → (b ≡ true → n ≤ most) → most < bound → IfSome (if b then Some n else None) (λ k. k < bound)
some_at_most true n most bound is below = omega (arith, is refl, below)
some_at_most false n most bound is below = tt

number-fits : (most bound : ℕ) (word : List ℕ) → most < bound → IfSome (decimal_number most word) (λ k. k < bound)
number-fits most bound word below =
    some_at_most (is_numeral word && nat_le (digits_value 10 word) most) (digits_value 10 word) most bound (at_most (is_numeral word) (digits_value 10 word) most) below

negated : (size n : ℕ) → n < 2 ^ (8 * size) → as_unsigned size (neg_ℤ (pos n)) < 2 ^ (8 * size)
negated size zero below = below
negated size (suc n) below = omega (arith, below)

negated-fits : (size : ℕ) (o : Option ℕ) → IfSome o (λ k. k < 2 ^ (8 * size)) → IfSome (option_map (as_unsigned size) (option_map (λ n. neg_ℤ (pos n)) o)) (λ k. k < 2 ^ (8 * size))
negated-fits size None fits = tt
negated-fits size (Some n) fits = negated size n fits

plain-fits : (size bound : ℕ) (o : Option ℕ) → IfSome o (λ k. k < bound) → IfSome (option_map (as_unsigned size) (option_map pos o)) (λ k. k < bound)
plain-fits size bound None fits = tt
plain-fits size bound (Some n) fits = fits

either : (b : Bool) (size bound : ℕ) (o p : Option ℤ) → IfSome (option_map (as_unsigned size) o) (λ k. k < bound) → IfSome (option_map (as_unsigned size) p) (λ k. k < bound)
    → IfSome (option_map (as_unsigned size) (if b then o else p)) (λ k. k < bound)
either true size bound o p f g = f
either false size bound o p f g = g

signed-fits : (size most : ℕ) (word : List ℕ) → most + 1 < 2 ^ (8 * size) → IfSome (option_map (as_unsigned size) (signed_number most word)) (λ k. k < 2 ^ (8 * size))
signed-fits size most [] below = tt
signed-fits size most (byte ∷ bytes) below =
    either (byte == 45) size (2 ^ (8 * size)) (option_map (λ n. neg_ℤ (pos n)) (decimal_number (most + 1) bytes)) (option_map pos (decimal_number most (byte ∷ bytes)))
    (negated-fits size _ (number-fits (most + 1) _ bytes below)) (plain-fits size _ _ (number-fits most _ (byte ∷ bytes) (omega (arith, below))))

pub as-fits : (base : BaseType) (word : List ℕ) → IfSome (number_as base word) (λ k. k < 256 ^ (row_of base).size)
as-fits Sint8 word = signed-fits 1 127 word (omega arith)
as-fits Sint16 word = signed-fits 2 32767 word (omega arith)
as-fits Sint32 word = signed-fits 4 2147483647 word (omega arith)
as-fits Uint8 word = number-fits 255 _ word (omega arith)
as-fits Uint16 word = number-fits 65535 _ word (omega arith)
as-fits Uint32 word = number-fits 4294967295 _ word (omega arith)
as-fits Enum word = tt
as-fits String word = tt
as-fits Float32 word = tt
as-fits Float64 word = tt
as-fits Uint8z word = tt
as-fits Uint16z word = tt
as-fits Uint32z word = tt
as-fits Byte word = tt
as-fits Sint64 word = tt
as-fits Uint64 word = tt
as-fits Uint64z word = tt

or-fits : (b : Bool) (o value : Option ℕ) (bound : ℕ) → IfSome o (λ k. k < bound) → IfSome value (λ k. k < bound) → IfSome (option_or (if b then o else None) value) (λ k. k < bound)
or-fits true None value bound f g = g
or-fits true (Some n) value bound f g = f
or-fits false o value bound f g = g

pub setting-fits : (rows : List SampleField) (values : List (Option ℕ)) (key word : List ℕ) → ValuesFit rows values → ValuesFit rows (with_setting rows values key word)
setting-fits [] values key word fits = tt
setting-fits (row ∷ rows) [] key word fits = tt
setting-fits (row ∷ rows) (value ∷ values) key word fits =
    (or-fits (bytes_eq key row.2) (number_as row.1 word) value _ (as-fits row.1 word) fits.0, setting-fits rows values key word fits.1)

-- an empty word is no number
none-as : (base : BaseType) → number_as base [] ≡ None
none-as Enum = refl
none-as Sint8 = refl
none-as Uint8 = refl
none-as Sint16 = refl
none-as Uint16 = refl
none-as Sint32 = refl
none-as Uint32 = refl
none-as String = refl
none-as Float32 = refl
none-as Float64 = refl
none-as Uint8z = refl
none-as Uint16z = refl
none-as Uint32z = refl
none-as Byte = refl
none-as Sint64 = refl
none-as Uint64 = refl
none-as Uint64z = refl

skip : (b rest : Bool) (o : Option ℕ) → o ≡ None → rest ≡ false → (is_some (if b then o else None) || rest) ≡ false
skip true rest None is none = none
skip true rest (Some n) is none = cc
skip false rest o is none = none

pub none-any : (rows : List SampleField) (key : List ℕ) → list_any (λ row. is_some (number_by row key [])) rows ≡ false
none-any [] key = refl
none-any (row ∷ rows) key = skip (bytes_eq key row.2) _ (number_as row.1 []) (none-as row.1) (none-any rows key)
