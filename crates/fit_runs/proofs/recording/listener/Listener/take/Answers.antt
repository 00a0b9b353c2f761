use Rattle.std.proofs.Common.{ℕ, List, [], ◌+◌, ◌++◌, length, take, take_all, drop, subst, sym, append-nil, append_assoc, arith}
use Rattle.fit_runs.specs.Exchanges.{told}
use Rattle.fit_runs.specs.Rides.Listening.{HasHeard, BreaksOffAt}
use Rattle.fit_runs.specs.Rides.Turns.{Turn}
use Rattle.fit_runs.proofs.Exchanged.{only_none, only_then}
use Rattle.fit_runs.proofs.Reported.Heard.{can_more, breaks_more, taken_more, taken_all}
use Rattle.fit_runs.proofs.recording.listener.Listener.take.Goals as goal

pub take_byte-next-requires : goal.take_byte-next-requires
take_byte-next-requires g c = record {
  able = (
    c.requires.able.0 + c.loop-byte.byte-index,
    c.loop-byte.invariant.able c.requires.able.0 c.requires.able.1,
    omega (arith, c.requires.able.2, c.loop-byte-test.true),
  );
}

pub returns-in-Err-clause-able : goal.returns-in-Err-clause-able
returns-in-Err-clause-able g c = λ count can.
    let i = c.loop-byte.byte-index in
    can_more g.D.Disk.honest g.D.Disk.story (count + i + 1) (count + length c.args.piece.now) c.take_byte-next.result.0
    (c.take_byte-next.ensures.able (count + i) (c.loop-byte.invariant.able count can)) (omega (arith, c.loop-byte-test.true))

pub returns-in-Err-clause-heard : goal.returns-in-Err-clause-heard
returns-in-Err-clause-heard g c = λ every old bytes turns before known.
    let i = c.loop-byte.byte-index in
    let piece = c.args.piece.now in
    let so_far = c.loop-byte.invariant.heard every old bytes turns before known in
    let heard = rw c.in-Err.is at
    c.take_byte-next.ensures.heard every old (bytes ++ take i piece) (turns ++ so_far.0) before so_far.1 in (
      so_far.0 ++ heard.0,
      tt,
      subst (λ (all : List Turn). BreaksOffAt g.D.Disk.honest g.D.Disk.story every old (bytes ++ piece) all before c.take_byte-next.result.0
          (told (g.P.Dialogue.story c.take_byte-next.new.dialogue))) (append_assoc turns so_far.0 heard.0)
          (breaks_more g.D.Disk.honest g.D.Disk.story every old _ (drop (i + 1) piece) (bytes ++ piece) ((turns ++ so_far.0) ++ heard.0) before
          (told (g.P.Dialogue.story c.take_byte-next.new.dialogue)) c.take_byte-next.result.0 heard.2
          (taken_all bytes piece i c.loop-byte-test.true)),
    )

pub loop-byte-preserved : goal.loop-byte-preserved
loop-byte-preserved g c =
    let honest = g.D.Disk.honest in
    let story = g.D.Disk.story in
    let i = c.loop-byte.byte-index in
    let piece = c.args.piece.now in
    record {
      tells = only_then _ _ _ _ _ _ c.loop-byte.invariant.tells c.take_byte-next.ensures.tells;
      able = λ count can.
          can_more honest story (count + i + 1) (count + (i + 1)) c.take_byte-next.result.0
          (c.take_byte-next.ensures.able (count + i) (c.loop-byte.invariant.able count can)) (omega arith);
      heard = λ every old bytes turns before known.
          let so_far = c.loop-byte.invariant.heard every old bytes turns before known in
          let heard = rw c.in-Ok.is at
          c.take_byte-next.ensures.heard every old (bytes ++ take i piece) (turns ++ so_far.0) before so_far.1 in (
            so_far.0 ++ heard.0,
            subst (λ (all : List Turn). HasHeard honest story every old (bytes ++ take (i + 1) piece) all before c.take_byte-next.result.0
                (told (g.P.Dialogue.story c.take_byte-next.new.dialogue))) (append_assoc turns so_far.0 heard.0)
                (subst (λ (all : List ℕ). HasHeard honest story every old all ((turns ++ so_far.0) ++ heard.0) before c.take_byte-next.result.0
                (told (g.P.Dialogue.story c.take_byte-next.new.dialogue))) (taken_more bytes piece i c.loop-byte-test.true) heard.1),
          );
    }

pub loop-byte-init : goal.loop-byte-init
loop-byte-init g c =
    let honest = g.D.Disk.honest in
    let story = g.D.Disk.story in
    record {
      tells = only_none _ _;
      able = λ count can. can_more honest story count (count + 0) c.args.self can (omega arith);
      heard = λ every old bytes turns before known. (
        [],
        subst (λ (all : List Turn). HasHeard honest story every old (bytes ++ []) all before c.args.self
            (told (g.P.Dialogue.story c.args.dialogue.now))) (sym (append-nil turns))
            (subst (λ (all : List ℕ). HasHeard honest story every old all turns before c.args.self
            (told (g.P.Dialogue.story c.args.dialogue.now))) (sym (append-nil bytes)) known),
      );
    }

pub returns-in-Err-clause-tells : goal.returns-in-Err-clause-tells
returns-in-Err-clause-tells g c = only_then _ _ _ _ _ _ c.loop-byte.invariant.tells c.take_byte-next.ensures.tells

pub returns-clause-heard : goal.returns-clause-heard
returns-clause-heard g c = λ every old bytes turns before known.
    let so_far = c.loop-byte.invariant.heard every old bytes turns before known in (
      so_far.0,
      subst (λ (all : List ℕ). HasHeard g.D.Disk.honest g.D.Disk.story every old (bytes ++ all) (turns ++ so_far.0) before c.loop-byte.listener
          (told (g.P.Dialogue.story c.loop-byte.dialogue))) (take_all c.loop-byte.byte-index c.args.piece.now c.loop-byte-test.false) so_far.1,
      tt,
    )
