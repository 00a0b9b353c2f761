use Rattle.std.proofs.Common.{◌≡◌, true, [], take, drop, map}
use Rattle.fit_scripts.specs.Scripts.Faults.{settings_fault}
use Rattle.fit_activity.specs.Rides.Fields.{sample_rows}
use Rattle.fit_activity.specs.Rides.Table.{ValuesFit}
use Rattle.fit_scripts.specs.Scripts.Sample.{are_settings, values_stated}
use Rattle.fit_scripts.proofs.script.sample.sample_at.Given as goal

abbrev pub invariant-loop-setting : goal.invariant-loop-setting
invariant-loop-setting l =
    let all = map (λ word. word.now) l.settings in
    let words = take l.setting-index all in
    record {
      settings : are_settings words ≡ true;
      values : l.values ≡ values_stated sample_rows words;
      fit : ValuesFit sample_rows l.values;
      fault : settings_fault [] all ≡ settings_fault words (drop l.setting-index all);
    }
