use Rattle.std.proofs.Common.{◌≡◌, ◌++◌, append_assoc, rules}
use Rattle.std.proofs.Output.{has_written_append}
use Rattle.std.specs.List.{flat_map}
use Rattle.std.specs.Str.Iter.{bytes_rest}
use Rattle.fit_words.specs.Shown.{byte_text}
use Rattle.fit_words.proofs.shown.write_character.Goals as goal

pub loop-byte-preserved : goal.loop-byte-preserved
loop-byte-preserved g c = λ plain.
    let so_far = c.loop-byte.invariant plain in
    let step : flat_map byte_text (bytes_rest c.loop-byte.byte-iterator) ≡ byte_text c.in-Some.byte ++ flat_map byte_text (bytes_rest c.next.new.self)
    = search rules in
    (so_far.0 ++ byte_text c.in-Some.byte, has_written_append _ _ _ _ _ _ so_far.1 (search rules), rw (append_assoc, ← step) so_far.2)
