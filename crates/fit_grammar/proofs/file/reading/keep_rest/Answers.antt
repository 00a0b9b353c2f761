use Rattle.std.proofs.Common.{◌≡◌, ℕ, ◌≤◌, ◌++◌, length, Result, Ok, Err, refl, subst, ◌∙◌, arith}
use Rattle.std.specs.Prelude.{OnOk}
use Rattle.std.proofs.lemmas.List.{length-append}
use Rattle.std.proofs.lemmas.Result.{on_ok_weaker, IfErr-weaker}
use Rattle.fit_base.specs.Number.{low_first}
use Rattle.fit_grammar.specs.declared.file.fault.FaultKind.TheVariants.{Memory}
use Rattle.fit_grammar.specs.Calls.Pieces.{IsShownBy}
use Rattle.fit_grammar.specs.Private.Feeding.{ReadsOn, ClosingShows, fault_in}
use Rattle.fit_grammar.proofs.Pieces.Carried.{memory_shown}
use Rattle.fit_grammar.proofs.Pieces.Ended.{waits_reads, closed_reads, closing_shown}
use Rattle.fit_grammar.proofs.file.reading.keep_rest.Goals as goal

-- three facts of an `Ok` give a fourth
together : {T E : Type 0} (r : Result T E) (P Q R S : Type 0) → (P → Q → R → S) → OnOk r P → OnOk r Q → OnOk r R → OnOk r S
together (Ok x) P Q R S f p q s = f p q s
together (Err e) P Q R S f p q s = tt

pub returns-then-reading-clause-ok : goal.returns-then-reading-clause-ok
returns-then-reading-clause-ok c = λ b t.
    let old = c.args.reading.now in
    let new = record old { carry = c.keep_begun.new.carry } in
    on_ok_weaker c.keep_begun.result
    (λ carried. waits_reads b c.args.rest.now old new t c.if-reading.true
    (record { file = refl; places = refl; at = refl; end = refl; checksum = refl }) c.requires.none carried refl (c.requires.short c.if-reading.true)) c.keep_begun.ensures.ok

pub returns-then-reading-clause-err : goal.returns-then-reading-clause-err
returns-then-reading-clause-err c = λ b t.
    let old = c.args.reading.now in
    let new = record old { carry = c.keep_begun.new.carry } in
    IfErr-weaker c.keep_begun.result (λ kind. (kind ≡ Memory) × (1 ≤ length c.args.rest.now)) (λ kind. IsShownBy b (fault_in new kind))
    (λ kind memory. memory_shown b (old.closing.items ++ c.args.rest.now) old new kind t.stands c.if-reading.true
    (omega (arith, memory.1, length-append old.closing.items c.args.rest.now)) memory.0 refl)
    c.keep_begun.ensures.err

pub returns-else-reading-clause-ok : goal.returns-else-reading-clause-ok
returns-else-reading-clause-ok c = λ b t.
    let old = c.args.reading.now in
    let closing = c.take_closing.new.closing in
    let new = record old { closing = closing } in
    together c.take_closing.result (closing.items ≡ old.closing.items ++ c.args.rest.now)
    (2 ≤ length closing.items → low_first closing.items ≡ c.value.result) (length closing.items ≤ 2) (ReadsOn b new)
    (λ items right within. closed_reads b c.args.rest.now old new t c.if-reading.false
    (record { file = refl; places = refl; at = refl; end = refl; checksum = refl }) refl c.requires.none items
    (λ two. right two ∙ c.value.ensures) within)
    c.take_closing.ensures.items c.take_closing.ensures.right c.take_closing.ensures.within

pub returns-else-reading-clause-err : goal.returns-else-reading-clause-err
returns-else-reading-clause-err c = λ b t.
    let old = c.args.reading.now in
    let new = record old { closing = c.take_closing.new.closing } in
    let tail = old.closing.items ++ c.args.rest.now in
    IfErr-weaker c.take_closing.result (ClosingShows tail c.value.result) (λ kind. IsShownBy b (fault_in new kind))
    (λ kind sh. closing_shown b c.args.rest.now old new kind t c.if-reading.false
    (record { file = refl; places = refl; at = refl; end = refl; checksum = refl })
    (subst (λ (n : ℕ). ClosingShows tail n kind) c.value.ensures sh)) c.take_closing.ensures.shown
