use Rattle.std.proofs.Common.{List, Option, ℕ, sym, subst, arith}
use Rattle.std.proofs.lemmas.List.{nil_from_length}
use Rattle.fit_grammar.specs.Calls.Table.{definition_in}
use Rattle.fit_mending.proofs.Others.{HasSaid, all_said, less, less_within, said_first}
use Rattle.fit_mending.proofs.rides.other_rides.Goals as goal

pub loop-rest-preserved : goal.loop-rest-preserved
loop-rest-preserved c = (
  less_within c.args.bytes.now c.loop-rest.rest.now c.in-len1-up.len_at_least c.loop-rest.invariant.0,
  λ before from to items known are.
      let g = definition_in c.other_in.new.latest in
      subst (λ (l : List (Option ℕ)). HasSaid c.args.bytes.now c.args.own before c.args.pieces.now (less c.loop-rest.rest.now) l g)
      (sym c.in_ok-push.ensures.items)
      (said_first c.args.bytes.now c.args.own before c.args.pieces.now c.loop-rest.rest.now c.loop-rest.others.items c.other_in.result
      (definition_in c.loop-rest.latest) g _ c.in-len1-up.len_at_least (c.loop-rest.invariant.1 before from to items known are) c.other_in.ensures),
)

pub returns : goal.returns
returns c = λ before from to items known are.
    all_said c.args.bytes.now c.args.own before c.args.pieces.now c.loop-rest.rest.now c.loop-rest.others.items (definition_in c.loop-rest.latest)
    (c.loop-rest.invariant.1 before from to items known are) (nil_from_length c.loop-rest.rest.now (omega (arith, c.in_default.len_below)))
