use Rattle.std.proofs.Common.{ℕ, List, ◌∷◌, [], map, sym, ap, ◌∙◌, arith}
use Rattle.std.specs.Prelude.{string_bytes}
use Rattle.std.specs.Cmp.Lexicographic.{same_text}
use Rattle.std.proofs.lemmas.List.{nil_from_length}
use Rattle.fit_commands.proofs.Found.{bytes_more, no_word, names_step, names_end}
use Rattle.fit_commands.proofs.each.names_with.Goals as goal

pub loop-rest-preserved-in_ok-push_listed : goal.loop-rest-preserved-in_ok-push_listed
loop-rest-preserved-in_ok-push_listed c =
    let listed = c.in_ok-push_listed.ensures in
    names_step c.loop-rest.rest.now no_word _ (map string_bytes c.loop-rest.all.items) _ listed.0 c.in-len1-up.len_at_least
    (λ isnt. absurd (isnt (same_text _ _ (sym c.if-eq.true ∙ c.eq.ensures)))) listed.1 c.loop-rest.invariant

pub loop-rest-preserved : goal.loop-rest-preserved
loop-rest-preserved c =
    names_step c.loop-rest.rest.now no_word _ (map string_bytes c.loop-rest.all.items) _ (string_bytes c.in_ok-from_str.field-0 ∷ [])
    c.in-len1-up.len_at_least (λ isnt. ap (λ (l : List ℕ). l ∷ []) c.in_ok-from_str.ensures.ok)
    (bytes_more c.loop-rest.all.items c.push.new.self.items _ c.in_ok-push.ensures.items) c.loop-rest.invariant

pub returns : goal.returns
returns c =
    names_end c.loop-rest.rest.now _ (map string_bytes c.loop-rest.all.items)
    (nil_from_length c.loop-rest.rest.now (omega (arith, c.in_default.len_below))) c.loop-rest.invariant
