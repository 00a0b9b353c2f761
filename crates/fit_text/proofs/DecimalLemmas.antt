-- Numbers in decimal, three digits at a time, and the table of three digits: for `writing/decimal`.
use lib.Dec.{leb}
use mir.Val.{bool_byte}
use Rattle.std.proofs.Common.{◌≡◌, ℕ, Bool, true, false, zero, suc, ◌+◌, ◌-◌, ◌*◌, ◌/◌, ◌%◌, ◌^◌, ◌<◌, ◌≤◌, List, [], ◌∷◌, ◌++◌, length, get_or, take, drop, refl, ap, ◌∙◌, arith, append_assoc, codes, drop-drop, drop-cons, length-take-le, length-drop, sym}
use Rattle.std.proofs.lemmas.Bool.{leb-true, leb-false}
use Rattle.std.proofs.lemmas.Fmt.{decimal_digit, decimal_step}
use Rattle.std.proofs.lemmas.List.FromFn.{length-range_with_len, get_or-range_with_len}
use Rattle.std.specs.Fmt.{decimal}
use Rattle.std.specs.List.{flat_map, range_with_len}
use Rattle.itoa.proofs.Decimal.{decimal_two, decimal_pair}
use Rattle.fit_text.specs.declared.writing.decimal.digits.TheConstants.{DIGITS}
use Rattle.fit_text.specs.Pen.{three}

-- ---- decimal

pub decimal_three : (n : ℕ) → 1000 ≤ n → n < 2 ^ 64 → decimal n ≡ decimal (n / 1000) ++ three (n % 1000)
decimal_three n lo hi =
    let a : n / 100 / 10 ≡ n / 1000 = omega arith in
    let b : n / 100 % 10 ≡ n % 1000 / 100 = omega arith in
    let c : n % 100 / 10 ≡ n % 1000 / 10 % 10 = omega arith in
    let d : n % 100 % 10 ≡ n % 1000 % 10 = omega arith in
    rw (decimal_pair n (omega arith) hi, decimal_step (n / 100) (omega arith) (omega arith), append_assoc, a, b, c, d) refl

pub decimal_six : (n : ℕ) → 1000000 ≤ n → n < 2 ^ 64 →
    decimal n ≡ decimal (n / 1000000) ++ (three (n % 1000000 / 1000) ++ three (n % 1000000 % 1000))
decimal_six n lo hi =
    let a : n / 1000 / 1000 ≡ n / 1000000 = omega arith in
    let b : n / 1000 % 1000 ≡ n % 1000000 / 1000 = omega arith in
    let c : n % 1000 ≡ n % 1000000 % 1000 = omega arith in
    rw (decimal_three n (omega arith) hi, decimal_three (n / 1000) (omega arith) (omega arith), append_assoc, a, b, c) refl

abbrev six : ℕ → List ℕ
six n = three (n / 1000) ++ three (n % 1000)

pub decimal_twelve : (n : ℕ) → 1000000000000 ≤ n → n < 2 ^ 64 →
    decimal n ≡ (decimal (n / 1000000000000) ++ six (n / 1000000 % 1000000)) ++ six (n % 1000000)
decimal_twelve n lo hi =
    let a : n / 1000000 / 1000000 ≡ n / 1000000000000 = omega arith in
    rw (decimal_six n (omega arith) hi, decimal_six (n / 1000000) (omega arith) (omega arith), a) refl

-- ---- the table

table : DIGITS ≡ flat_map three (range_with_len 0 1000) ++ codes "000"
table = refl

-- the digits of the number at an index, and those after them
drop-threes : (ns : List ℕ) (i : ℕ) (after : List ℕ) → i < length ns →
    (rest : List ℕ) × (drop (3 * i) (flat_map three ns ++ after) ≡ three (get_or ns i 0) ++ rest)
drop-threes [] i after lt = absurd (omega arith)
drop-threes (n ∷ ns) zero after lt = (flat_map three ns ++ after, refl)
drop-threes (n ∷ ns) (suc i) after lt =
    let more : 3 * suc i ≡ suc (suc (suc (3 * i))) = omega arith in
    rw more (drop-threes ns i after (omega arith))

pub digits_of : (n : ℕ) → n < 1000 → (rest : List ℕ) × (drop (3 * n) DIGITS ≡ three n ++ rest)
digits_of n lt =
    let in_table = drop-threes (range_with_len 0 1000) n (codes "000") (omega (arith, length-range_with_len 0 1000)) in
    let is : get_or (range_with_len 0 1000) n 0 ≡ n = omega (arith, get_or-range_with_len 0 1000 n 0 lt) in
    (in_table.0, ap (drop (3 * n)) table ∙ in_table.1 ∙ ap (λ m. three m ++ in_table.0) is)

pub three_from : (n from : ℕ) → n < 1000 → from ≡ 3 * n → take 3 (drop from DIGITS) ≡ three n
three_from n from lt e = let row = digits_of n lt in rw (e, row.1) refl

one_from : (n from : ℕ) → n < 10 → from ≡ 3 * n + 2 → take 1 (drop from DIGITS) ≡ decimal n
one_from n from lt e =
    let row = digits_of n (omega arith) in
    let small : n % 10 ≡ n = omega arith in
    rw (e, ← drop-drop 2 (3 * n) DIGITS, row.1, small, decimal_digit n lt) refl

two_from : (n from : ℕ) → 10 ≤ n → n < 100 → from ≡ 3 * n + 1 → take 2 (drop from DIGITS) ≡ decimal n
two_from n from le lt e =
    let row = digits_of n (omega arith) in
    let small : n / 10 % 10 ≡ n / 10 = omega arith in
    rw (e, ← drop-drop 1 (3 * n) DIGITS, row.1, small, decimal_two n le lt) refl

all_from : (n from : ℕ) → 100 ≤ n → n < 1000 → from ≡ 3 * n → take 3 (drop from DIGITS) ≡ decimal n
all_from n from le lt e =
    let a : n % 100 / 10 ≡ n / 10 % 10 = omega arith in
    let b : n % 100 % 10 ≡ n % 10 = omega arith in
    rw (three_from n from lt e, decimal_pair n le (omega arith), decimal_digit (n / 100) (omega arith), a, b) refl

-- four digits one by one
pub four_from : (from : ℕ) → from + 4 ≤ 3003 →
    get_or DIGITS from 0 ∷ get_or DIGITS (from + 1) 0 ∷ get_or DIGITS (from + 2) 0 ∷ get_or DIGITS (from + 3) 0 ∷ [] ≡ take 4 (drop from DIGITS)
four_from from inside =
    let all : length DIGITS ≡ 3003 = refl in
    let one : from + 1 ≡ suc from = omega arith in
    let two : from + 2 ≡ suc (suc from) = omega arith in
    let three : from + 3 ≡ suc (suc (suc from)) = omega arith in
    rw (
      one,
      two,
      three,
      drop-cons DIGITS from 0 (omega (arith, all)),
      drop-cons DIGITS (suc from) 0 (omega (arith, all)),
      drop-cons DIGITS (suc (suc from)) 0 (omega (arith, all)),
      drop-cons DIGITS (suc (suc (suc from))) 0 (omega (arith, all)),
    ) refl

-- the digits of a number below 1000, without leading zeros
pub first_from : (n : ℕ) (ten hundred : Bool) (digits from : ℕ) → leb 10 n ≡ ten → leb 100 n ≡ hundred → n < 1000 →
    digits ≡ 1 + bool_byte ten + bool_byte hundred → from ≡ 3 * n + 3 - digits →
    (digits ≤ 3) × (take digits (drop from DIGITS) ≡ decimal n)
first_from n true true digits from p q lt e f =
    (omega (arith, e), rw e (all_from n from (leb-true 100 n q) lt (omega (arith, e, f))))
first_from n true false digits from p q lt e f =
    (omega (arith, e), rw e (two_from n from (leb-true 10 n p) (leb-false 100 n q) (omega (arith, e, f))))
first_from n false true digits from p q lt e f = absurd (omega (arith, leb-false 10 n p, leb-true 100 n q))
first_from n false false digits from p q lt e f = (omega (arith, e), rw e (one_from n from (leb-false 10 n p) (omega (arith, e, f))))

-- and how many they are
pub first_length : (n digits from : ℕ) → digits ≤ 3 → from ≤ 3000 → take digits (drop from DIGITS) ≡ decimal n → digits ≡ length (decimal n)
first_length n digits from few inside is =
    let all : length DIGITS ≡ 3003 = refl in
    sym (length-take-le digits (drop from DIGITS) (omega (arith, length-drop from DIGITS, all))) ∙ ap length is
