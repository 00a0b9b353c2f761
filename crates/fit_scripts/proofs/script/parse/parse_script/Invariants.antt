use Rattle.std.proofs.Common.{◌≡◌, All, map, take}
use Rattle.fit_scripts.specs.Scripts.Script.{IsLine, events_of}
use Rattle.fit_scripts.proofs.script.parse.parse_script.Given as goal

abbrev pub invariant-loop-index : goal.invariant-loop-index
invariant-loop-index l =
    let texts = take l.index (map (λ line. line.now) l.line-items) in
    record {
      lines : All IsLine texts;
      events : l.events.items ≡ events_of 1 texts;
    }
