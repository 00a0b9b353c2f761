use Rattle.std.proofs.Common.{ℕ, List, length-drop, take, drop, subst, sym, arith}
use Rattle.std.proofs.KnownBytes.{Appends-trans}
use Rattle.std.proofs.lemmas.List.{take_rest}
use Rattle.std.proofs.Math.Seq.{take-add}
use Rattle.std.specs.Io.KnownBytes.{Appends}
use Rattle.fit_runs.proofs.streams.write_front.Goals as goal

pub loop-count-preserved : goal.loop-count-preserved
loop-count-preserved g c =
    let contents = g.O.Write.contents in
    let i = c.loop-count.count in
    let text = c.args.text.now in
    let added = subst (λ (rest : List ℕ). Appends (contents c.loop-count.out) (contents c.write.new.self) (take c.in-Ok.taken rest)) (take_rest text i)
    c.in-Ok.ensures.bytes in
    record {
      within = omega (arith, c.in-Ok.ensures.bound, c.loop-count-test.true, length-drop {A = ℕ});
      front = subst (λ (all : List ℕ). Appends (contents c.args.out.now) (contents c.write.new.self) all) (sym (take-add i c.in-Ok.taken text))
          (Appends-trans (contents c.args.out.now) (contents c.loop-count.out) (contents c.write.new.self) (take i text) (take c.in-Ok.taken (drop i text))
          c.loop-count.invariant.front added);
    }
