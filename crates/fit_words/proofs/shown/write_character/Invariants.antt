use Rattle.std.proofs.Common.{◌≡◌, ℕ, List, ◌++◌}
use Rattle.std.specs.Fmt.{HasWritten, IsPlainFormatter}
use Rattle.std.specs.List.{flat_map}
use Rattle.std.specs.Str.Iter.{bytes_rest}
use Rattle.fit_words.specs.Shown.{byte_text}
use Rattle.fit_words.proofs.shown.write_character.Given as goal

abbrev pub invariant-loop-byte : goal.invariant-loop-byte
invariant-loop-byte g l = IsPlainFormatter l.initial.f → (done : List ℕ) × HasWritten g.W.Write.write_str_gives l.initial.f done l.f
    × (done ++ flat_map byte_text (bytes_rest l.byte-iterator) ≡ flat_map byte_text (bytes_rest l.initial.byte-iterator))
