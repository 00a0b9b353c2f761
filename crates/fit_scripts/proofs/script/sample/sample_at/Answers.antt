use Rattle.std.proofs.Common.{◌≡◌, ◌<◌, ◌+◌, ◌∙◌, ℕ, Bool, true, false, List, [], map, take, drop, length, get_or, Bor, Option, None, Result, Ok, Err, IsErr, refl, sym, arith, subst, if◌then◌else◌}
use Rattle.std.proofs.lemmas.List.{drop_more, take_more}
use Rattle.std.proofs.lemmas.Result.{err_from_is_err_and}
use Rattle.std.specs.Result.{result_ok}
use Rattle.fit_activity.specs.Rides.Fields.{sample_rows}
use Rattle.fit_activity.specs.Rides.Table.{ValuesFit}
use Rattle.fit_scripts.specs.Scripts.Faults.{setting_fault, settings_fault}
use Rattle.fit_scripts.specs.declared.script.fault.ScriptFaultKind.{ScriptFaultKind}
use Rattle.fit_scripts.specs.Scripts.Sample.{key_in, setting_value, are_settings, is_new_setting, values_stated, with_setting}
use Rattle.fit_scripts.proofs.Scripts.Numbers.{setting-fits}
use Rattle.fit_scripts.proofs.Scripts.Lines.{now_at, within_now, no_settings, settings_more, stated_next}
use Rattle.fit_scripts.proofs.script.sample.sample_at.Goals as goal

refused : {X E : Type 0} (result : Result X E) → IsErr result → result_ok result ≡ None
refused (Ok sample) e = cc
refused (Err fault) e = refl

abbrev words_of : List (Bor (List ℕ)) → List (List ℕ)
words_of settings = map (λ word. word.now) settings

-- whether the next word is a new setting among the words
as_words : (settings : List (Bor (List ℕ))) (i : ℕ) (d : Bor (List ℕ)) (b : Bool) → i < length settings →
    is_new_setting (take i (words_of settings)) (get_or settings i d).now ≡ b →
    is_new_setting (take i (words_of settings)) (get_or (words_of settings) i []) ≡ b
as_words settings i d b within e = rw (now_at settings i d within) e

stopped : (settings : List (Bor (List ℕ))) (i : ℕ) (d : Bor (List ℕ)) → i < length settings →
    is_new_setting (take i (words_of settings)) (get_or settings i d).now ≡ false → are_settings (words_of settings) ≡ false
stopped settings i d within bad = no_settings (words_of settings) i (within_now settings i within) (as_words settings i d false within bad)

-- the numbers after the next word
went_on : (settings : List (Bor (List ℕ))) (i : ℕ) (d : Bor (List ℕ)) (values next : List (Option ℕ)) → i < length settings →
    values ≡ values_stated sample_rows (take i (words_of settings)) →
    next ≡ with_setting sample_rows values (key_in (get_or settings i d).now) (setting_value (get_or settings i d).now) →
    next ≡ values_stated sample_rows (take (i + 1) (words_of settings))
went_on settings i d values next within is e =
    e ∙ rw (stated_next sample_rows (words_of settings) i (within_now settings i within), now_at settings i d within, is) refl

-- the fault is that of the next word, or of a word after it
next_fault : (words : List (List ℕ)) (i : ℕ) → i < length words → (b : Bool) → is_new_setting (take i words) (get_or words i []) ≡ b →
    settings_fault (take i words) (drop i words)
    ≡ (if b then settings_fault (take (i + 1) words) (drop (i + 1) words) else setting_fault (take i words) (get_or words i []))
next_fault words i within true new = rw (drop_more words i [] within, new, take_more words i [] within) refl
next_fault words i within false new = rw (drop_more words i [] within, new) refl

faulty : (settings : List (Bor (List ℕ))) (i : ℕ) (d : Bor (List ℕ)) (kind : ScriptFaultKind) → i < length settings →
    is_new_setting (take i (words_of settings)) (get_or settings i d).now ≡ false →
    kind ≡ setting_fault (take i (words_of settings)) (get_or settings i d).now →
    kind ≡ settings_fault (take i (words_of settings)) (drop i (words_of settings))
faulty settings i d kind within bad is =
    is ∙ sym (next_fault (words_of settings) i (within_now settings i within) false (as_words settings i d false within bad)
    ∙ rw (now_at settings i d within) refl)

pub returns-in_err-add_setting-clause-value : goal.returns-in_err-add_setting-clause-value
returns-in_err-add_setting-clause-value c =
    let held = c.loop-setting.invariant in
    let words = take c.loop-setting.setting-index (words_of c.args.settings.now) in
    let said = c.in_err-add_setting.ensures.fault words held.settings held.values in
    let bad = stopped c.args.settings.now c.loop-setting.setting-index _ (omega arith) said.0 in
    refused _ c.from_residual.ensures.0 ∙ rw bad refl

pub returns-in_err-add_setting-clause-fault : goal.returns-in_err-add_setting-clause-fault
returns-in_err-add_setting-clause-fault c =
    let held = c.loop-setting.invariant in
    let words = take c.loop-setting.setting-index (words_of c.args.settings.now) in
    let said = c.in_err-add_setting.ensures.fault words held.settings held.values in
    let left = err_from_is_err_and c.from_residual.result c.from_residual.ensures.1 in
    rw left.1 (left.2 ∙ faulty c.args.settings.now c.loop-setting.setting-index _ _ (omega arith) said.0 said.1 ∙ sym held.fault)

pub loop-setting-preserved : goal.loop-setting-preserved
loop-setting-preserved c =
    let held = c.loop-setting.invariant in
    let settings = c.args.settings.now in
    let i = c.loop-setting.setting-index in
    let short = within_now settings i (omega arith) in
    let new = as_words settings i _ true (omega arith) (c.in_ok-add_setting.ensures.new (take i (words_of settings)) held.settings held.values) in
    record {
      settings = settings_more (words_of settings) i short held.settings new;
      values = went_on settings i _ c.loop-setting.values c.add_setting.new.values (omega arith) held.values c.in_ok-add_setting.ensures.value;
      fit = subst (ValuesFit sample_rows) (sym c.in_ok-add_setting.ensures.value) (setting-fits sample_rows c.loop-setting.values _ _ held.fit);
      fault = held.fault ∙ next_fault (words_of settings) i short true new;
    }
