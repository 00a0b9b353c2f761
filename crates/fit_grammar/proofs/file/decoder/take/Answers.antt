use Rattle.std.proofs.Common.{◌≡◌, ◌≤◌, ◌++◌, List, ℕ, length, take, ap, subst, sym, ◌∙◌}
use Rattle.std.proofs.lemmas.Result.{IfErr-weaker}
use Rattle.fit_grammar.specs.declared.file.fault.FaultKind.TheVariants.{Memory}
use Rattle.fit_grammar.specs.Calls.Pieces.{IsShownBy, NoItemEndsPast}
use Rattle.fit_grammar.specs.Private.Feeding.{ReadsOn}
use Rattle.fit_grammar.proofs.Pieces.Asked.{no_item_past}
use Rattle.fit_grammar.proofs.Decoding.Longer.{shown_longer}
use Rattle.fit_grammar.proofs.file.decoder.take.Goals as goal

pub returns-in-Err-begin-clause-refused : goal.returns-in-Err-begin-clause-refused
returns-in-Err-begin-clause-refused c = λ fed was.
    let here = rw c.in-Header.is at was in
    let taken = (rw c.in-Ok-Some.field-0-is at c.in-Ok-Some.ensures).taken in
    c.in-Err-begin.ensures.err fed (sym (c.len-had.ensures.value ∙ ap length here.0))
    (c.deref.ensures.0 ∙ taken.0 ∙ ap (λ (l : List ℕ). take 14 (l ++ c.args.bytes.now)) here.0)

pub returns-in-Err-clause-refused : goal.returns-in-Err-clause-refused
returns-in-Err-clause-refused c = λ fed was.
    let here = rw c.in-Header.is at was in
    subst (λ (l : List ℕ). IsShownBy (l ++ c.args.bytes.now) c.in-Err.fault) here.0 c.in-Err.ensures.refused

pub returns-in-Refused-clause-refused : goal.returns-in-Refused-clause-refused
returns-in-Refused-clause-refused c = λ fed was.
    shown_longer fed c.args.bytes.now c.in-Refused.fault (rw c.in-Refused.is at was)

pub returns-in-Records-clause-asked : goal.returns-in-Records-clause-asked
returns-in-Records-clause-asked c = λ fed was is.
    let r = c.in-Records.reading in
    let reads : ReadsOn fed r = rw c.in-Records.is at was in
    IfErr-weaker c.read_on.result (λ fault. fault.kind ≡ Memory → r.at ≤ fault.place) (λ fault. fault.kind ≡ Memory → NoItemEndsPast fed fault.place)
    (λ fault le memory. no_item_past fed r fault.place reads (le memory)) c.read_on.ensures.later
