-- An exit: after all the records come the closing checksum, what follows it, and the end of the input. For `Shown`.
use Rattle.std.proofs.Common.{◌≡◌, ◌≢◌, ℕ, ◌+◌, ◌<◌, ◌≤◌, List, [], ◌∷◌, ◌++◌, length, take, sym, ap, subst, ◌∙◌, append_assoc, arith}
use Rattle.std.proofs.Math.Seq.{take-append_seam}
use Rattle.std.proofs.lemmas.List.{length-append}
use Rattle.fit_base.specs.Number.{low_first}
use Rattle.fit_base.specs.Checksum.{crc}
use Rattle.fit_grammar.specs.declared.file.fault.FaultKind.{FaultKind}
use Rattle.fit_grammar.specs.declared.file.fault.FaultKind.TheVariants.{Truncated, HeaderSize, Magic, Protocol, HeaderCrc, UndefinedLocal, SplitMessage, FileCrc, TrailingBytes, Memory}
use Rattle.fit_grammar.specs.Format.File.{FileOf, IsHeader, IsClosing}
use Rattle.fit_grammar.specs.Format.Refusal.{Front, front_bytes, front_end, IsFront, TailShows, Refusal}
use Rattle.fit_grammar.proofs.Decoding.Refused.{refused, cut_short, closed_blocked, closing_mute}

-- after all the records one byte shows no fault
full_mute : (kind : FaultKind) (f : Front) (tail : List ℕ) → length f.records ≡ f.size → TailShows kind f tail → 2 ≤ length tail
full_mute FileCrc f tail full sh = omega (arith, sh.1)
full_mute TrailingBytes f tail full sh = omega (arith, sh.1)
full_mute (UndefinedLocal local) f tail full sh = omega (arith, sh.0)
full_mute SplitMessage f tail full sh = omega (arith, sh.0)
full_mute HeaderSize f tail full sh = absurd sh
full_mute Protocol f tail full sh = absurd sh
full_mute Magic f tail full sh = absurd sh
full_mute HeaderCrc f tail full sh = absurd sh
full_mute Truncated f tail full sh = absurd sh
full_mute Memory f tail full sh = absurd sh

-- the input ends within the checksum
pub closing_cut : (b : List ℕ) (f : Front) (rest : List ℕ) → IsFront f → b ≡ front_bytes f ++ rest
    → length f.records ≡ f.size → length rest < 2 → Refusal b Truncated (length b)
closing_cut b f rest p e full short =
    cut_short b f rest (record {
      is_front = p;
      joined = e;
      blocked = λ _. closed_blocked f rest full;
      mute = λ kind tail more is lt shown. omega (arith, full_mute kind f tail full shown);
    }) (closed_blocked f rest full) (λ _. short)

-- the checksum is wrong
pub closing_wrong : (b : List ℕ) (f : Front) (tail after : List ℕ) → IsFront f → b ≡ front_bytes f ++ (tail ++ after)
    → length f.records ≡ f.size → length tail ≡ 2 → low_first tail ≢ crc (front_bytes f) → Refusal b FileCrc (front_end f)
closing_wrong b f tail after p e full two wrong =
    refused FileCrc b f tail after (record {
      is_front = p;
      joined = e;
      blocked = λ _. closed_blocked f (tail ++ after) full;
      mute = λ kind t more is lt shown. omega (arith, full_mute kind f t full shown);
    }) (full, two, wrong)

-- a byte follows the checksum
pub closing_followed : (b : List ℕ) (f : Front) (closing : List ℕ) (byte : ℕ) (after : List ℕ) → IsFront f
    → b ≡ front_bytes f ++ (closing ++ byte ∷ after) → length f.records ≡ f.size → IsClosing (front_bytes f) closing
    → Refusal b TrailingBytes (front_end f + 2)
closing_followed b f closing byte after p e full c =
    let tail = closing ++ byte ∷ [] in
    let parts : tail ++ after ≡ closing ++ byte ∷ after = append_assoc closing (byte ∷ []) after in
    let three : length tail ≡ 3 = omega (arith, length-append closing (byte ∷ []), c.whole) in
    let front : take 2 tail ≡ closing = ap (λ (k : ℕ). take k tail) (sym c.whole) ∙ take-append_seam closing (byte ∷ []) in
    refused TrailingBytes b f tail after (record {
      is_front = p;
      joined = e ∙ ap (λ (l : List ℕ). front_bytes f ++ l) (sym parts);
      blocked = λ _. closed_blocked f (tail ++ after) full;
      mute = λ kind t more is lt shown. closing_mute kind f closing (byte ∷ after) t more full c (sym parts ∙ is) (omega arith) shown;
    }) (full, three, subst (λ (l : List ℕ). IsClosing (front_bytes f) l) (sym front) c)

-- a front with all its records and the right checksum is a file
pub closing_right : (b : List ℕ) (f : Front) (closing : List ℕ) → IsFront f → b ≡ front_bytes f ++ closing
    → length f.records ≡ f.size → IsClosing (front_bytes f) closing → FileOf b (record { frame = f.frame; items = f.items })
closing_right b f closing p e full c = record {
  header = f.header;
  records = f.records;
  closing = closing;
  joined = e;
  is_header = subst (λ (n : ℕ). IsHeader f.header f.frame n) (sym full) p.is_header;
  are_records = p.are_records;
  is_closing = c;
}
