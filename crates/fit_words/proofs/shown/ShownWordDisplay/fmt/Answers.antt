use Rattle.std.proofs.Common.{◌≡◌, ℕ, List, [], ◌∷◌, ◌++◌, length, append_assoc, append-nil, arith, rules}
use Rattle.std.proofs.Output.{has_written_append}
use Rattle.std.proofs.lemmas.Str.{chars-nil, chars_past_char, IsUtf8-past_char}
use Rattle.std.specs.List.{flat_map}
use Rattle.std.specs.Str.{chars}
use Rattle.std.specs.Str.Iter.{chars_rest}
use Rattle.fit_words.specs.Shown.{character_text}
use Rattle.fit_words.proofs.shown.ShownWordDisplay.fmt.Goals as goal

pub loop-character-preserved : goal.loop-character-preserved
loop-character-preserved g c =
    let old = chars_rest c.loop-character.character-iterator in
    let rest = chars_rest c.next.new.self in
    let is_utf8 = c.loop-character.invariant.0 in
    let first = chars_past_char old rest c.in-Some.character is_utf8 (search rules) in
    let step : flat_map character_text (chars old) ≡ character_text c.in-Some.character ++ flat_map character_text (chars rest)
    = search (rules, first) in (
      IsUtf8-past_char old rest c.in-Some.character is_utf8 (search rules),
      λ plain.
          let so_far = c.loop-character.invariant.1 plain in
          (so_far.0 ++ character_text c.in-Some.character, has_written_append _ _ _ _ _ _ so_far.1 (search rules), rw (append_assoc, ← step) so_far.2),
    )

ended : (rest done whole : List ℕ) → length rest ≡ 0 → done ++ flat_map character_text (chars rest) ≡ whole → done ≡ whole
ended [] done whole none same = rw (chars-nil, append-nil) at same
ended (byte ∷ rest) done whole none same = absurd (omega (arith, none))

pub returns-clause-writes : goal.returns-clause-writes
returns-clause-writes g c = λ plain ok.
    let so_far = c.loop-character.invariant.1 plain in
    rw (ended (chars_rest c.loop-character.character-iterator) so_far.0 _ (search rules) so_far.2) at so_far.1
