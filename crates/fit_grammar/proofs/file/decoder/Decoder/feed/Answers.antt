use Rattle.std.proofs.Common.{◌++◌, subst, sym}
use Rattle.std.proofs.lemmas.Result.{on_ok_weaker}
use Rattle.fit_grammar.specs.Calls.Fed.{WasFed}
use Rattle.fit_grammar.proofs.Pieces.Reported.{open_quiet, carried_short}
use Rattle.fit_grammar.proofs.file.decoder.Decoder.feed.Goals as goal

pub invariant_of-self : goal.invariant_of-self
invariant_of-self c =
    let fed = c.self.invariant in
    (fed.0 ++ c.args.bytes.now, c.step.ensures.fed fed.0 fed.1)

pub returns-clause-fed : goal.returns-clause-fed
returns-clause-fed c = λ fed was. c.step.ensures.fed fed (subst (WasFed fed) (sym c.self.view_is) was)

pub returns-clause-quiet : goal.returns-clause-quiet
returns-clause-quiet c = λ fed was.
    let now = c.step.ensures.fed fed (subst (WasFed fed) (sym c.self.view_is) was) in
    on_ok_weaker c.step.result (λ is. open_quiet (fed ++ c.args.bytes.now) c.step.new.state is now) c.step.ensures.open

pub returns-clause-short : goal.returns-clause-short
returns-clause-short c =
    let fed = c.self.invariant in
    carried_short (fed.0 ++ c.args.bytes.now) c.step.new.state (c.step.ensures.fed fed.0 fed.1)
