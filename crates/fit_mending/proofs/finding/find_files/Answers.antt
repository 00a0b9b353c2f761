use Rattle.std.proofs.Common.{ℕ, ◌+◌, ◌≡◌, List, [], length, drop, min, refl, sym, ap, ◌∙◌, subst, arith}
use Rattle.std.proofs.lemmas.List.{length-append, length-drop}
use Rattle.fit_mending.specs.declared.chained.Part.{Part}
use Rattle.fit_mending.specs.Found.{BeginsFile, BeginsWithFile, IsReadTo}
use Rattle.fit_mending.proofs.Found.{AreFoundTo, HasRead, nothing_found, found_more, found_none, all_found, pushed, read_later, read_more, reads_too_long}
use Rattle.fit_mending.proofs.finding.find_files.Goals as goal

one_more : (passed read sum : ℕ) → sum ≡ min (passed + read) 18446744073709551615 → (bytes : List ℕ) (at : ℕ) (rest : List ℕ)
    → rest ≡ drop at bytes → IsReadTo rest read → HasRead bytes at passed → HasRead bytes (at + 1) sum
one_more passed read sum is bytes at rest back reads has =
    read_more bytes at read passed sum has (subst (λ (l : List ℕ). IsReadTo l read) back reads) (omega (arith, is))

pub loop-at-init : goal.loop-at-init
loop-at-init c = (
  subst (λ (l : List Part). AreFoundTo c.args.bytes.now 0 l 0) (sym c.new-parts.ensures.items) (nothing_found c.args.bytes.now),
  ([], 0, refl, omega arith),
  omega arith,
)

pub loop-at-preserved-in-Ok : goal.loop-at-preserved-in-Ok
loop-at-preserved-in-Ok c =
    let bytes = c.args.bytes.now in
    let at = c.loop-at.at in
    let file = c.in-Ok.file in
    let part : Part = record { number = at; bytes = file } in
    let begins = subst (λ (l : List ℕ). BeginsWithFile l file.now) c.split_at.ensures.back c.in-Ok.ensures.file in
    let more = found_more bytes 0 at c.loop-at.parts.items part c.loop-at.invariant.0 refl begins in (
      subst (λ (l : List Part). AreFoundTo bytes 0 l (at + length file.now))
          (sym (pushed c.push.result _ _ _ (sym c.is_err.ensures.value ∙ c.if-is_err.false) c.push.ensures.items)) more,
      read_later bytes at (at + length file.now) c.loop-at.passed (omega arith) c.loop-at.invariant.1,
      omega (
        arith,
        c.loop-at-test.true,
        length-drop at bytes,
        ap length begins.3,
        length-append file.now begins.2,
      ),
    )

pub loop-at-preserved : goal.loop-at-preserved
loop-at-preserved c = (
  found_none c.args.bytes.now 0 c.loop-at.at c.loop-at.parts.items c.loop-at.invariant.0
      (λ begins. c.in-Err.ensures.none (subst BeginsFile (sym c.split_at.ensures.back) begins)),
  one_more c.loop-at.passed c.in-Err.read c.saturating_add-passed.result c.saturating_add-passed.ensures c.args.bytes.now c.loop-at.at
      c.split_at.result.1.now c.split_at.ensures.back c.in-Err.ensures.read c.loop-at.invariant.1,
  omega (arith, c.loop-at-test.true),
)

pub returns-then-passed-bytes-clause-too_many : goal.returns-then-passed-bytes-clause-too_many
returns-then-passed-bytes-clause-too_many c = λ is.
    reads_too_long c.args.bytes.now (c.loop-at.at + 1) c.saturating_add-passed.result
    (one_more c.loop-at.passed c.in-Err.read c.saturating_add-passed.result c.saturating_add-passed.ensures c.args.bytes.now c.loop-at.at
    c.split_at.result.1.now c.split_at.ensures.back c.in-Err.ensures.read c.loop-at.invariant.1)
    (omega (arith, c.loop-at-test.true)) (omega (arith, c.if-passed-bytes.true))

pub returns : goal.returns
returns c = record {
  found = all_found c.args.bytes.now 0 c.loop-at.at c.loop-at.parts.items c.loop-at.invariant.0 (search (arith, c.loop-at-test.false));
  too_many = tt;
}
