-- The place of a fault is within the bytes: for `fitrec_join`, which counts it from the first part.
use Rattle.std.proofs.Common.{◌≡◌, ℕ, ◌+◌, ◌≤◌, inl, inr, List, length, take, ap, ◌∙◌, arith}
use Rattle.std.proofs.lemmas.List.{length-append, length-take}
use Rattle.fit_grammar.specs.declared.file.fault.FaultKind.{FaultKind}
use Rattle.fit_grammar.specs.declared.file.fault.FaultKind.TheVariants.{Truncated, HeaderSize, Magic, Protocol, HeaderCrc, UndefinedLocal, SplitMessage, FileCrc, TrailingBytes, Memory}
use Rattle.fit_grammar.specs.Format.Refusal.{Front, front_bytes, front_end, HeaderShows, TailShows, place_after, Shows, Refusal}

header_within : (kind : FaultKind) (place : ℕ) (bytes : List ℕ) → HeaderShows kind place bytes → place ≤ length bytes
header_within HeaderSize place bytes shown = omega (arith, shown.0)
header_within Protocol place bytes shown = omega (arith, shown.0, shown.1)
header_within Magic place bytes shown = omega (arith, shown.0, shown.1)
header_within HeaderCrc place bytes shown = omega (arith, shown.0, shown.1)
header_within Truncated place bytes shown = absurd shown
header_within (UndefinedLocal local) place bytes shown = absurd shown
header_within SplitMessage place bytes shown = absurd shown
header_within FileCrc place bytes shown = absurd shown
header_within TrailingBytes place bytes shown = absurd shown
header_within Memory place bytes shown = absurd shown

tail_within : (kind : FaultKind) (front : Front) (tail : List ℕ) → TailShows kind front tail
    → place_after kind front ≤ front_end front + length tail
tail_within TrailingBytes front tail shown = omega (arith, shown.1)
tail_within HeaderSize front tail shown = omega arith
tail_within Protocol front tail shown = omega arith
tail_within Magic front tail shown = omega arith
tail_within HeaderCrc front tail shown = omega arith
tail_within Truncated front tail shown = omega arith
tail_within (UndefinedLocal local) front tail shown = omega arith
tail_within SplitMessage front tail shown = omega arith
tail_within FileCrc front tail shown = omega arith
tail_within Memory front tail shown = omega arith

shown_within : (kind : FaultKind) (place : ℕ) (bytes : List ℕ) → Shows kind place bytes → place ≤ length bytes
shown_within kind place bytes (inl header) = header_within kind place bytes header
shown_within kind place bytes (inr after) =
    let front = after.front in
    let whole : length bytes ≡ length front.header + length front.records + length after.tail =
    ap length after.joined ∙ length-append (front_bytes front) after.tail
    ∙ ap (λ (n : ℕ). n + length after.tail) (length-append front.header front.records) in
    omega (arith, whole, after.there, tail_within kind front after.tail after.shown)

pub refusal_within : (bytes : List ℕ) (kind : FaultKind) (place : ℕ) → Refusal bytes kind place → place ≤ length bytes
refusal_within bytes kind place (inl shortest) =
    omega (arith, shown_within kind place (take shortest.count bytes) shortest.shown, length-take shortest.count bytes)
refusal_within bytes kind place (inr short) = omega (arith, short.at_end)
