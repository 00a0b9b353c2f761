-- What follows the records of a file: its checksum, and nothing else. For `close`.
use Rattle.std.proofs.Common.{◌≡◌, ◌≢◌, ℕ, ◌+◌, ◌<◌, ◌≤◌, List, length, take, drop, refl, sym, ap, ◌∙◌, arith}
use Rattle.std.proofs.lemmas.List.{length-take-le, length-drop, take_all}
use Rattle.byteorder.specs.Endian.{little_number}
use Rattle.fit_base.specs.Number.{low_first}
use Rattle.fit_base.specs.Checksum.{crc}
use Rattle.fit_grammar.specs.declared.file.fault.FaultKind.{FaultKind}
use Rattle.fit_grammar.specs.declared.file.fault.FaultKind.TheVariants.{Truncated, FileCrc, TrailingBytes}
use Rattle.fit_grammar.specs.declared.file.fault.FileFault.{FileFault}
use Rattle.fit_grammar.specs.Format.File.{FileValue, FileOf}
use Rattle.fit_grammar.specs.Private.Decoding.{IsRefusedBy, Reached}
use Rattle.fit_grammar.proofs.Decoding.HeaderRead.{two_read}
use Rattle.fit_grammar.proofs.Decoding.Longer.{reached_within}
use Rattle.fit_grammar.proofs.Decoding.Shown.{reached_end_refused}
use Rattle.fit_grammar.proofs.LentRow.Passed.{refused_of}
use Rattle.fit_grammar.proofs.Pieces.Ended.{closed_file}

abbrev fault_at : FaultKind → ℕ → FileFault
fault_at kind place = record { kind = kind; place = place }

-- all the records of the file were read, up to `end`, and these bytes are before and after it
pub record IsSplit (b before after : List ℕ) (v : FileValue) (end : ℕ) : Type 0 where
  pub reached : Reached b v end end
  pub before_is : before ≡ take end b
  pub after_is : after ≡ drop end b

long : (b before after : List ℕ) (v : FileValue) (end : ℕ) → IsSplit b before after v end → length b ≡ end + length after
long b before after v end s =
    omega (arith, (reached_within b v end end s.reached).0, length-drop end b, ap length s.after_is)

pub ends_short : (b before after : List ℕ) (v : FileValue) (end : ℕ) → IsSplit b before after v end → length after < 2
    → IsRefusedBy b (fault_at Truncated (length b))
ends_short b before after v end s short =
    let fault = fault_at Truncated (length b) in
    refused_of b fault (reached_end_refused b v end end fault s.reached (omega arith)
    (refl, omega (arith, long b before after v end s, short))) (λ e. cc)

-- the number in the two bytes after the records, and the checksum of those before
pub record IsCompared (before after : List ℕ) (given sum : ℕ) : Type 0 where
  pub two : 2 ≤ length after
  pub given_is : given ≡ little_number 2 (take 2 after)
  pub sum_is : sum ≡ crc before

given_there : (b before after : List ℕ) (v : FileValue) (end given sum : ℕ) → IsSplit b before after v end
    → IsCompared before after given sum → low_first (take 2 (drop end b)) ≡ given
given_there b before after v end given sum s c =
    ap (λ (l : List ℕ). low_first (take 2 l)) (sym s.after_is) ∙ two_read after 0 given (omega (arith, c.two)) c.given_is

sum_there : (b before after : List ℕ) (v : FileValue) (end given sum : ℕ) → IsSplit b before after v end
    → IsCompared before after given sum → sum ≡ crc (take end b)
sum_there b before after v end given sum s c = c.sum_is ∙ ap crc s.before_is

pub ends_wrong : (b before after : List ℕ) (v : FileValue) (end given sum : ℕ) → IsSplit b before after v end
    → IsCompared before after given sum → given ≢ sum → IsRefusedBy b (fault_at FileCrc end)
ends_wrong b before after v end given sum s c other =
    let fault = fault_at FileCrc end in
    refused_of b fault (reached_end_refused b v end end fault s.reached (omega arith) (
      refl,
      omega (arith, long b before after v end s, c.two),
      λ e. other (sym (given_there b before after v end given sum s c) ∙ e ∙ sym (sum_there b before after v end given sum s c)),
    )) (λ e. cc)

pub ends_followed : (b before after : List ℕ) (v : FileValue) (end given sum : ℕ) → IsSplit b before after v end
    → IsCompared before after given sum → given ≡ sum → 2 < length after → IsRefusedBy b (fault_at TrailingBytes (end + 2))
ends_followed b before after v end given sum s c same more =
    let fault = fault_at TrailingBytes (end + 2) in
    refused_of b fault (reached_end_refused b v end end fault s.reached (omega arith) (
      refl,
      omega (arith, long b before after v end s, more),
      record {
        whole = length-take-le 2 (drop end b) (omega (arith, ap length s.after_is, c.two));
        right = given_there b before after v end given sum s c ∙ same ∙ sum_there b before after v end given sum s c;
      },
    )) (λ e. cc)

pub ends_right : (b before after : List ℕ) (v : FileValue) (end given sum : ℕ) → IsSplit b before after v end
    → IsCompared before after given sum → given ≡ sum → length after ≤ 2 → FileOf b v
ends_right b before after v end given sum s c same all =
    let tail = drop end b in
    let two : length tail ≡ 2 = omega (arith, ap length s.after_is, c.two, all) in
    closed_file b tail v end end s.reached (omega arith) refl two
    (ap low_first (sym (take_all 2 tail (omega (arith, two)))) ∙ given_there b before after v end given sum s c ∙ same
    ∙ sum_there b before after v end given sum s c)
