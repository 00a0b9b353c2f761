use Rattle.std.proofs.Common.{◌≡◌, ◌<◌, ◌+◌, suc, ◌==◌, ◌&&◌, ◌∷◌, ◌++◌, [], not, if◌then◌else◌, ℕ, Bool, List, false, get_or, subst, ap, ◌∙◌, append_assoc, arith}
use Rattle.std.proofs.lemmas.List.{length-append}
use Rattle.fit_files.specs.Exports.Held.{AreHeld, others_below}
use Rattle.fit_files.proofs.Exports.Fields.{length-others}
use Rattle.fit_files.proofs.export.held.Held.add_others.Goals as goal

pub loop-number-preserved : goal.loop-number-preserved
loop-number-preserved c = λ numbers few are.
    let held : ℕ → Bool = λ n. get_or c.args.held.now n false in
    let k = c.loop-number.number in
    let below : k < 256 = c.loop-number-test.true in
    let more = c.add_if.ensures (numbers ++ others_below held k)
    (omega (arith, few, below, length-append numbers (others_below held k), length-others held k)) (c.loop-number.invariant numbers few are) in
    let next : suc k ≡ k + 1 = omega arith in
    subst (λ (n : ℕ). AreHeld (numbers ++ others_below held n) c.add_if.new.self) next
    (subst (λ (all : List ℕ). AreHeld all c.add_if.new.self)
    (append_assoc numbers (others_below held k) _
    ∙ ap (λ (n : ℕ). numbers ++ (others_below held k ++ (if held k && not (k == n) then k ∷ [] else []))) c.from.ensures) more)

pub returns : goal.returns
returns c = λ numbers few are.
    let held : ℕ → Bool = λ n. get_or c.args.held.now n false in
    let all : c.loop-number.number ≡ 256 = omega (arith, c.loop-number-test.false, c.loop-number.auto.number-end) in
    subst (λ (n : ℕ). AreHeld (numbers ++ others_below held n) c.loop-number.self) all (c.loop-number.invariant numbers few are)
