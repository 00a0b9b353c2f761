use Rattle.std.proofs.Common.{◌≡◌, ℕ, ◌-◌, ◌++◌, length, take, refl, ap, subst, arith}
use Rattle.std.proofs.lemmas.List.{length-append}
use Rattle.std.proofs.lemmas.Result.{IfOk-weaker, IfErr-weaker}
use Rattle.std.proofs.Math.Seq.{take-append_seam}
use Rattle.fit_grammar.specs.declared.file.state.Reading.{Reading}
use Rattle.fit_grammar.specs.declared.file.fault.FaultKind.TheVariants.{Truncated}
use Rattle.fit_grammar.specs.Calls.Pieces.{IsShownBy}
use Rattle.fit_grammar.specs.Format.Records.{in_force}
use Rattle.fit_grammar.specs.Private.Decoding.{IsItemFault}
use Rattle.fit_grammar.specs.Private.Feeding.{CarriesOn, TakesBegun, fault_in}
use Rattle.fit_grammar.proofs.Pieces.Standing.{stands_fits, stands_noted}
use Rattle.fit_grammar.proofs.Pieces.Carried.{Carries, carries_on, carried_fault, memory_shown}
use Rattle.fit_grammar.proofs.file.carry.take_carried.Goals as goal

pub take_begun-requires : goal.take_begun-requires
take_begun-requires c =
    let r = c.args.reading.now in
    let had : c.len-had.result ≡ length r.carry.items = omega (arith, c.len-had.ensures, r.carry.ok.0) in
    let carried = c.in-Ok.ensures.ok in
    let front : take c.len-had.result c.keep_begun.new.carry.items ≡ r.carry.items =
    rw (had, carried) (take-append_seam r.carry.items (take c.min-own.result c.args.bytes.now)) in
    record {
      fits = stands_fits c.requires.stands.0 (r.carry.items ++ c.args.bytes.now) r c.requires.stands.1;
      more = c.requires.more;
      noted = stands_noted c.requires.stands.0 (r.carry.items ++ c.args.bytes.now) r c.requires.stands.1;
      had = omega (arith, had, ap length carried, length-append r.carry.items (take c.min-own.result c.args.bytes.now));
      begun = rw front c.requires.begun;
    }

-- the reading with bytes added to its carry
abbrev mid : goal.After-take_begun → Reading
mid c = record c.args.reading.now { carry = c.keep_begun.new.carry }

carries : (c : goal.After-take_begun)
    → Carries c.args.reading.now (mid c) c.args.bytes.now c.most_length-most.result c.min-own.result
carries c =
    let r = c.args.reading.now in
    let had : c.len-had.result ≡ length r.carry.items = omega (arith, c.len-had.ensures, r.carry.ok.0) in
    record {
      stays = record { file = refl; places = refl; at = refl; end = refl; checksum = refl };
      adds = record {
        own_is = omega (arith, c.min-own.ensures, c.saturating_sub.ensures, had);
        added_is = c.in-Ok.ensures.ok;
        bytes = c.keep_begun.ensures.bytes;
      };
      least = rw c.deref.ensures.value at c.most_length-most.ensures.least;
      longest = c.most_length-most.ensures.longest;
      some = c.requires.some;
      more = c.requires.more;
    }

pub returns-in-Ok-clause-ok : goal.returns-in-Ok-clause-ok
returns-in-Ok-clause-ok c = λ b s.
    let old = c.args.reading.now in
    let bytes = c.args.bytes.now in
    let new = c.take_begun.new.reading in
    let had : c.len-had.result ≡ length old.carry.items = omega (arith, c.len-had.ensures, old.carry.ok.0) in
    IfOk-weaker c.take_begun.result (TakesBegun (mid c) new c.len-had.result) (CarriesOn b new bytes)
    (λ used t. carries_on b bytes old (mid c) new c.most_length-most.result c.min-own.result used s (carries c)
    c.take_begun.ensures.same (subst (λ (n : ℕ). TakesBegun (mid c) new n used) had t)) c.take_begun.ensures.taken

pub returns-in-Ok-clause-err : goal.returns-in-Ok-clause-err
returns-in-Ok-clause-err c = λ b s.
    let old = c.args.reading.now in
    let new = c.take_begun.new.reading in
    let m = mid c in
    IfErr-weaker c.take_begun.result
    (λ kind. IsItemFault (in_force m.file.items) m.carry.items (m.end - m.at) kind × (kind ≡ Truncated → ⊥) × (new.at ≡ m.at))
    (λ kind. IsShownBy b (fault_in new kind))
    (λ kind sh. carried_fault b c.args.bytes.now old m new c.most_length-most.result c.min-own.result kind s (carries c)
    sh.0 sh.1 sh.2) c.take_begun.ensures.fault

pub returns-in-Err-clause-err : goal.returns-in-Err-clause-err
returns-in-Err-clause-err c = λ b s.
    let old = c.args.reading.now in
    let new = record old { carry = c.keep_begun.new.carry } in
    memory_shown b (old.carry.items ++ c.args.bytes.now) old new c.in-Err.kind s c.requires.more
    (omega (arith, c.requires.some, length-append old.carry.items c.args.bytes.now)) c.in-Err.ensures.err.0 refl
