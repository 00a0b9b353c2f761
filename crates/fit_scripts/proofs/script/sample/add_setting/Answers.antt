use Rattle.std.proofs.Common.{None, sym, ap, ◌∙◌, get_or, set, arith}
use Rattle.std.specs.Option.{is_some, option_or}
use Rattle.fit_activity.specs.Rides.Fields.{sample_rows}
use Rattle.fit_scripts.specs.Scripts.Sample.{setting_value, with_setting}
use Rattle.fit_scripts.proofs.Scripts.Settings.{some_row, row_found, row_absent, none_of, row_holds, value_stands, unknown_key, repeated_key, bad_number, new_setting}
use Rattle.fit_scripts.proofs.script.sample.add_setting.Goals as goal

pub returns-in_default-clause-fault : goal.returns-in_default-clause-fault
returns-in_default-clause-fault c = λ earlier are is.
    unknown_key earlier c.args.setting.now c.in_ok-key.key.now c.in_ok-key.ensures.key c.in_ok-key.ensures.parts are
    (row_absent c.in_ok-key.key.now (sym c.row_of.ensures.place ∙ none_of _ c.in_default.not-Some))

pub returns-then-is_some-clause-fault : goal.returns-then-is_some-clause-fault
returns-then-is_some-clause-fault c = λ earlier are is.
    let key = c.in_ok-key.key.now in
    let row = row_found key c.in-Some.at (sym c.row_of.ensures.place ∙ c.in-Some.is) in
    repeated_key earlier c.args.setting.now key c.in_ok-key.ensures.key c.in_ok-key.ensures.parts
    (sym (value_stands key c.in-Some.at some_row earlier row are) ∙ ap (λ values. is_some (get_or values c.in-Some.at None)) (sym is)
    ∙ sym c.is_some.ensures ∙ c.if-is_some.true)

pub returns-in_default-number_at-clause-fault : goal.returns-in_default-number_at-clause-fault
returns-in_default-number_at-clause-fault c = λ earlier are is.
    let key = c.in_ok-key.key.now in
    let value = c.in_ok-key.value.now in
    let row = row_found key c.in-Some.at (sym c.row_of.ensures.place ∙ c.in-Some.is) in
    let of = row_holds c.args.values.now key value c.in-Some.at some_row (omega (arith, c.told-values)) row in
    bad_number earlier c.args.setting.now key c.in_ok-key.ensures.key c.in_ok-key.ensures.parts value c.in_ok-key.ensures.value
    (sym (value_stands key c.in-Some.at some_row earlier row are) ∙ ap (λ values. is_some (get_or values c.in-Some.at None)) (sym is)
    ∙ sym c.is_some.ensures ∙ c.if-is_some.false)
    of.known (of.has ∙ ap is_some (sym (c.number_at.ensures some_row) ∙ none_of _ c.in_default-number_at.not-Some))

pub returns-clause-new : goal.returns-clause-new
returns-clause-new c = λ earlier are is.
    let key = c.in_ok-key.key.now in
    let value = c.in_ok-key.value.now in
    let row = row_found key c.in-Some.at (sym c.row_of.ensures.place ∙ c.in-Some.is) in
    let of = row_holds c.args.values.now key value c.in-Some.at some_row (omega (arith, c.told-values)) row in
    new_setting earlier c.args.setting.now key c.in_ok-key.ensures.key c.in_ok-key.ensures.parts value c.in_ok-key.ensures.value
    (sym (value_stands key c.in-Some.at some_row earlier row are) ∙ ap (λ values. is_some (get_or values c.in-Some.at None)) (sym is)
    ∙ sym c.is_some.ensures ∙ c.if-is_some.false)
    (of.has ∙ ap is_some (sym (c.number_at.ensures some_row) ∙ c.in-Some-number_at.is))

pub returns-clause-value : goal.returns-clause-value
returns-clause-value c =
    let key = c.in_ok-key.key.now in
    let value = c.in_ok-key.value.now in
    let values = c.args.values.now in
    let at = c.in-Some.at in
    let row = row_found key at (sym c.row_of.ensures.place ∙ c.in-Some.is) in
    let of = row_holds values key value at some_row (omega (arith, c.told-values)) row in
    sym (ap (λ k. with_setting sample_rows values k (setting_value c.args.setting.now)) (sym c.in_ok-key.ensures.key)
    ∙ ap (with_setting sample_rows values key) (sym c.in_ok-key.ensures.value) ∙ of.set_so
    ∙ ap (λ o. set values at (option_or o (get_or values at None))) (sym (c.number_at.ensures some_row) ∙ c.in-Some-number_at.is))
