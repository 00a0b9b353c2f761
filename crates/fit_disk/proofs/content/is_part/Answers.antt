use Rattle.std.proofs.Common.{rules, ◌≡◌, ◌-◌, ℕ, false, List, ◌++◌, length, take, drop, sym, ◌∙◌, ap, arith}
use Rattle.std.specs.Prelude.{◌==◌}
use Rattle.std.proofs.lemmas.Grind.{common_steps}
use Rattle.std.proofs.lemmas.Bool.{false≢true}
use Rattle.std.proofs.lemmas.Bool.Decides.{Decides-eqb}
use Rattle.std.proofs.lemmas.List.{take-append-drop}
use Rattle.std.proofs.lemmas.Slice.Eq.{starts_is}
use Rattle.fit_disk.proofs.content.is_part.Goals as goal

some_bytes : (n : ℕ) → false ≡ (n == 0) → n ≡ 0 → ⊥
some_bytes n some none = search rules

to_the_end : (content : List ℕ) (at : ℕ) → take (length content - at) (drop at content) ≡ drop at content
to_the_end content at = grind (arith, common_steps)

front : (bytes rest tail : List ℕ) → rest ≡ bytes ++ tail → bytes ≡ take (length bytes) rest
front bytes rest tail is = grind (arith, common_steps)

splits : (bytes rest : List ℕ) → bytes ≡ take (length bytes) rest → rest ≡ bytes ++ drop (length bytes) rest
splits bytes rest is = sym (take-append-drop (length bytes) rest) ∙ ap (λ head. head ++ drop (length bytes) rest) (sym is)

pub returns-clause-yes : goal.returns-clause-yes
returns-clause-yes c = λ passed.
    let bytes = c.args.bytes.now in
    let rest = take (length c.args.content.now - c.args.at) (drop c.args.at c.args.content.now) in
    let split : rest ≡ bytes ++ drop (length bytes) rest = (starts_is Decides-eqb rest bytes c.starts_with.result c.starts_with.ensures.value).0 passed in
    record {
      bytes_there = front bytes rest _ split ∙ ap (take (length bytes)) (to_the_end c.args.content.now c.args.at);
      at_end = λ _ none. absurd (some_bytes _ c.if-is_empty.ensures none);
    }

pub returns-clause-no : goal.returns-clause-no
returns-clause-no c = λ refused part.
    let bytes = c.args.bytes.now in
    let rest = take (length c.args.content.now - c.args.at) (drop c.args.at c.args.content.now) in
    let whole : rest ≡ drop c.args.at c.args.content.now = to_the_end c.args.content.now c.args.at in
    let is : bytes ≡ take (length bytes) rest = part.bytes_there ∙ ap (take (length bytes)) (sym whole) in
    false≢true (sym refused ∙ (starts_is Decides-eqb rest bytes c.starts_with.result c.starts_with.ensures.value).1 _ (splits bytes rest is))
