use Rattle.std.proofs.Common.{rules, ◌-◌, ◌≡◌, ◌≤◌, length, drop, sym, subst, ◌∙◌, arith}
use Rattle.std.proofs.lemmas.List.{length-take, length-drop}
use Rattle.std.proofs.lemmas.Slice.{take-put_mid_below}
use Rattle.fit_disk.specs.Story.{seen_of}
use Rattle.fit_disk.proofs.Reading.{reads_on}
use Rattle.fit_disk.proofs.reported.Reported.read.Goals as goal
use Rattle.fit_disk.proofs.reported.Reported.read.Goals.{in-Some-2, in-None}

pub loop-preserved : goal.loop-preserved
loop-preserved g c =
    let part = c.read_part.new.buffer in
    let count = c.loop.count in
    let seen = seen_of c.args.which (g.W.Witness.story c.args.self.now.witness) in
    let long : length part ≡ length c.loop.buffer - count = omega (arith, c.read_part.auto.buffer, length-take (length c.loop.buffer - count) (drop count c.loop.buffer), length-drop count c.loop.buffer) in
    elim c.match-branch-2.branch [
      | in-Some-2 w ↦
          let fits : w.in-Some-2.more ≤ length part = subst (λ n. w.in-Some-2.more ≤ n) (sym c.read_part.auto.buffer) (rw w.in-Some-2.is at c.in_ok-read_part.ensures.within) in
          record {
            within = search rules;
            bytes = λ honest. rw w.count-is (reads_on count w.in-Some-2.more c.args.at c.in-Some.place _ seen c.loop.buffer part c.loop.invariant.within long fits
                (search rules) (c.loop.invariant.bytes honest) (rw w.in-Some-2.is at (c.in_ok-read_part.ensures.bytes honest)));
          }
      | in-None w ↦ record {
        within = search rules;
        bytes = λ honest. rw w.count-is (take-put_mid_below count (length c.loop.buffer - count) c.loop.buffer part count (omega arith) c.loop.invariant.within ∙ c.loop.invariant.bytes honest);
      }
    ]
