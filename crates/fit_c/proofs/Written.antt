-- What the records of a plain form say of it, and that the length of a file fits in 64 bits.
use Rattle.std.proofs.Common.{◌≡◌, ℕ, ◌+◌, ◌<◌, ◌≤◌, ◌^◌, List, ◌++◌, length, Bool, true, false, ◌||◌, nat_lt, ◌==◌, if◌then◌else◌, ap, ◌∙◌, arith}
use Rattle.std.proofs.lemmas.Bool.Decides.{nat_tests}
use Rattle.std.proofs.lemmas.List.{length-append}
use Rattle.std.specs.Io.Iter.{u64_saturate}
use Rattle.std.specs.List.{list_any}
use Rattle.fit_base.specs.Checksum.{crc}
use Rattle.fit_base.specs.declared.order.Arch.TheVariants.{Little}
use Rattle.fit_grammar.specs.declared.file.frame.Frame.{Frame}
use Rattle.fit_grammar.specs.Format.Encoding.{two_bytes, with_checksum, header_front, encoded_header, encoded, encoded_items}
use Rattle.fit_grammar.specs.Format.File.{FileValue}
use Rattle.fit_grammar.specs.Format.Item.{Item}
use Rattle.fit_grammar.specs.Format.Records.{data_size}
use Rattle.fit_grammar.specs.Calls.PlainForm.{plain_of, plain_items, has_too_many_fields, is_too_long}
use Rattle.fit_grammar.proofs.Encoder.Encoded.{encoded_items-length}

-- a length below 2^64 is counted as it is
pub counted_whole : (n : ℕ) → n < 2 ^ 64 → u64_saturate n ≡ n
counted_whole n h = omega (arith, h)

header_by : (is : Bool) (frame : Frame) (size : ℕ)
    → length (if is then with_checksum (header_front frame size) else header_front frame size) ≤ 14
header_by true frame size = omega arith
header_by false frame size = omega arith

-- a file of fewer than 2^32 bytes of records
pub file_counted : (frame : Frame) (size : ℕ) (records : List ℕ) → length records < 2 ^ 32
    → u64_saturate (length (with_checksum (encoded_header frame size ++ records))) ≡ length (with_checksum (encoded_header frame size ++ records))
file_counted frame size records few =
    let whole = encoded_header frame size ++ records in
    counted_whole _
    (omega (
      arith,
      few,
      header_by (frame.header_size == 14) frame size,
      length-append (encoded_header frame size) records,
      length-append whole (two_bytes Little (crc whole)),
    ))

-- a file that is not too long
pub encoded_counted : (v : FileValue) → data_size v.items < 2 ^ 32 → u64_saturate (length (encoded v)) ≡ length (encoded v)
encoded_counted v few =
    file_counted v.frame (data_size v.items) (encoded_items v.items) (omega (arith, few, encoded_items-length v.items))

-- a plain form that is not
pub form_counted : (v : FileValue) → data_size (plain_items v.items) < 2 ^ 32
    → u64_saturate (length (encoded (plain_of v))) ≡ length (encoded (plain_of v))
form_counted v few = encoded_counted (plain_of v) few

-- ---- whether a plain form is too long

pub fits : (items : List Item) → list_any has_too_many_fields items ≡ false → data_size items ≤ 4294967295 → is_too_long 0 items ≡ false
fits items few small =
    let size : nat_lt 4294967295 (0 + data_size items) ≡ false = grind (arith, nat_tests) in
    ap (λ (b : Bool). b || nat_lt 4294967295 (0 + data_size items)) few ∙ size

pub too_many : (items : List Item) → list_any has_too_many_fields items ≡ true → is_too_long 0 items ≡ true
too_many items many = ap (λ (b : Bool). b || nat_lt 4294967295 (0 + data_size items)) many

both : (a b : Bool) → a ≡ true → (a || b) ≡ false → ⊥
both true b is isnt = cc
both false b is isnt = cc

-- one that fits has no definition of 256 fields
pub not_too_many : (items : List Item) → is_too_long 0 items ≡ false → list_any has_too_many_fields items ≡ true → ⊥
not_too_many items fit many = both (list_any has_too_many_fields items) (nat_lt 4294967295 (0 + data_size items)) many fit

-- so many bytes of records were counted
pub records_counted : (items : List Item) (tape : List ℕ) (len : ℕ) → len ≡ u64_saturate (length tape) → tape ≡ encoded_items items
    → len ≤ 4294967295 → len ≡ data_size items
records_counted items tape len counted made small =
    let long : length tape ≡ data_size items = ap length made ∙ encoded_items-length items in omega (arith, counted, long, small)

pub over : (items : List Item) (tape : List ℕ) (len : ℕ) → len ≡ u64_saturate (length tape) → tape ≡ encoded_items items → 4294967295 < len
    → 4294967295 < data_size items
over items tape len counted made large =
    let long : length tape ≡ data_size items = ap length made ∙ encoded_items-length items in omega (arith, counted, long, large)

pub too_large : (items : List Item) (tape : List ℕ) (len : ℕ) → len ≡ u64_saturate (length tape) → tape ≡ encoded_items items
    → list_any has_too_many_fields items ≡ false → 4294967295 < len → is_too_long 0 items ≡ true
too_large items tape len counted made few large =
    let large : 4294967295 < data_size items = over items tape len counted made large in
    let size : nat_lt 4294967295 (0 + data_size items) ≡ true = grind (arith, nat_tests) in
    ap (λ (b : Bool). b || nat_lt 4294967295 (0 + data_size items)) few ∙ size
