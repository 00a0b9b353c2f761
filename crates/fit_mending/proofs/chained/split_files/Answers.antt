use Rattle.std.proofs.Common.{◌≡◌, ℕ, ◌+◌, ◌≤◌, List, [], ◌∷◌, ◌++◌, length, refl, sym, ap, subst, ◌∙◌, arith}
use Rattle.std.specs.Prelude.{map}
use Rattle.std.proofs.lemmas.List.{map-append, take-append-drop}
use Rattle.fit_mending.specs.declared.chained.Part.{Part}
use Rattle.fit_mending.specs.Chained.{EndsFirst, AreNumbered}
use Rattle.fit_mending.proofs.Files.{EndsWith, ends_more, chained, joined, numbered_more}
use Rattle.fit_mending.proofs.chained.split_files.Goals as goal

abbrev bytes_of : Part → List ℕ
bytes_of part = part.bytes.now

pub loop-rest-preserved : goal.loop-rest-preserved
loop-rest-preserved c =
    let file = c.split_at.result.0 in
    let parts = c.loop-rest.parts.items in
    let part : Part = record { number = c.len-number.result + 1; bytes = file } in
    let files = map bytes_of parts in
    let long : length file.now ≡ c.first_file.result = search (arith, c.split_at.ensures.front_len) in
    let split : c.loop-rest.rest.now ≡ file.now ++ c.split_at.result.1.now = sym (rw (c.split_at.ensures.front) (rw (c.split_at.ensures.back) (take-append-drop c.first_file.result c.loop-rest.rest.now))) in
    let left : 1 ≤ length c.loop-rest.rest.now = search (arith, c.loop-rest-test.ensures) in
    let some : 1 ≤ length file.now = omega (arith, long, c.first_file.ensures.some left) in
    let more = ends_more c.args.bytes.now files c.loop-rest.rest.now file.now c.split_at.result.1.now c.loop-rest.invariant.ends split some
    (subst (EndsFirst c.loop-rest.rest.now) (sym long) c.first_file.ensures.ends) in
    record {
      ends = subst (λ (l : List (List ℕ)). EndsWith c.args.bytes.now l c.split_at.result.1.now)
          (sym (ap (map bytes_of) c.in_ok-push.ensures.items ∙ map-append bytes_of parts (part ∷ []))) more;
      numbered = subst (AreNumbered 0) (sym c.in_ok-push.ensures.items) (numbered_more 0 parts part c.loop-rest.invariant.numbered (omega (arith, c.len-number.ensures)));
    }

none_left : (rest : List ℕ) → length rest ≡ 0 → rest ≡ []
none_left [] e = refl
none_left (byte ∷ rest) e = absurd (omega (arith, e))

pub returns-clause-chained : goal.returns-clause-chained
returns-clause-chained c =
    chained c.args.bytes.now (map bytes_of c.loop-rest.parts.items) c.loop-rest.rest.now c.loop-rest.invariant.ends
    (none_left c.loop-rest.rest.now (search (arith, c.loop-rest-test.ensures)))

pub returns-clause-joined : goal.returns-clause-joined
returns-clause-joined c =
    joined c.args.bytes.now c.loop-rest.parts.items
    (chained c.args.bytes.now (map bytes_of c.loop-rest.parts.items) c.loop-rest.rest.now c.loop-rest.invariant.ends
    (none_left c.loop-rest.rest.now (search (arith, c.loop-rest-test.ensures))))

pub returns-clause-numbered : goal.returns-clause-numbered
returns-clause-numbered c = c.loop-rest.invariant.numbered
