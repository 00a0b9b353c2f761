-- The check codes of a recorder's and a recovery's numbers: the checksum of a FIT file over all of them.
use Rattle.std.specs.Prelude.{ℕ, List, [], ◌∷◌, ◌++◌}
use Rattle.std.specs.Int.{w64, to_le_bytes}
use Rattle.std.specs.List.{fold}
use Rattle.fit_base.specs.Checksum.{crc_from}
use Rattle.fit_recorder.specs.declared.frozen.FrozenDefinition.{FrozenDefinition}
use Rattle.fit_recorder.specs.declared.frozen.FrozenRecorder.{FrozenRecorder}
use Rattle.fit_recorder.specs.declared.recovery.frozen.FrozenRecovery.{FrozenRecovery}
use Rattle.fit_activity.specs.declared.totals.frozen.FrozenSums.{FrozenSums}
use Rattle.fit_activity.specs.declared.totals.frozen.FrozenTotals.{FrozenTotals}
use Rattle.fit_grammar.specs.declared.definition.frozen.FrozenShort.{FrozenShort}

abbrev pub with_number : ℕ → ℕ → ℕ
with_number register number = crc_from register (to_le_bytes w64 number)

abbrev pub sealed_with : ℕ → FrozenDefinition → ℕ
sealed_with register definition = with_number (crc_from register definition.bytes) definition.len

abbrev pub with_short_definition : ℕ → FrozenShort → ℕ
with_short_definition register definition =
    with_number (crc_from register definition.bytes) definition.len

abbrev pub sums_numbers : FrozenSums → List ℕ
sums_numbers s =
    s.heart_rate.total ∷ s.heart_rate.count ∷ s.heart_rate.greatest ∷ s.heart_rate.has_greatest
    ∷ s.power.total ∷ s.power.count ∷ s.power.greatest ∷ s.power.has_greatest
    ∷ s.known ∷ s.speed ∷ s.has_speed ∷ []

abbrev pub totals_numbers : FrozenTotals → List ℕ
totals_numbers t =
    sums_numbers t.whole ++ sums_numbers t.lap
    ++ t.clock.start ∷ t.clock.end ∷ t.clock.lap ∷ t.clock.timer ∷ t.clock.lap_timer
    ∷ t.clock.running
    ∷ t.time ∷ t.serial ∷ t.distance ∷ t.laps ∷ t.sport ∷ t.stopped ∷ t.has_distance ∷ []

-- the other numbers of a recorder, but for its page and its definitions
abbrev pub recorder_numbers : FrozenRecorder → List ℕ
recorder_numbers f =
    f.journal.first ∷ f.journal.second ∷ f.journal.third
    ∷ f.journal.first_checksum ∷ f.journal.second_checksum ∷ f.journal.third_checksum
    ∷ f.journal.form ∷ f.journal.has_first ∷ f.journal.has_second ∷ f.journal.has_third
    ∷ f.len ∷ f.crc32 ∷ f.checksum ∷ f.page_len ∷ f.turn ∷ f.failed ∷ []

-- the other numbers of a recovery, but for its definitions
abbrev pub reading_numbers : FrozenRecovery → List ℕ
reading_numbers f =
    f.journal.first ∷ f.journal.second ∷ f.journal.third
    ∷ f.journal.first_checksum ∷ f.journal.second_checksum ∷ f.journal.third_checksum
    ∷ f.journal.form ∷ f.journal.has_first ∷ f.journal.has_second ∷ f.journal.has_third
    ∷ f.heard.records ∷ f.heard.kind ∷ f.time ∷ f.at ∷ f.len ∷ f.crc32 ∷ f.checksum ∷ []

-- the check code of some numbers, the totals, and other numbers
abbrev pub with_totals : List ℕ → FrozenTotals → List ℕ → ℕ
with_totals first totals others =
    fold with_number (fold with_number (fold with_number 0 first) (totals_numbers totals)) others

abbrev pub seal_of : FrozenRecorder → ℕ → ℕ
seal_of f data_size =
    fold sealed_with (crc_from
    (with_totals (data_size ∷ []) f.totals (recorder_numbers f)) f.page) f.definitions

-- of a recovery, with the numbers that say what it asks for
abbrev pub recovery_seal : FrozenRecovery → List ℕ → ℕ
recovery_seal f asked =
    fold with_short_definition (with_totals asked f.heard.totals (reading_numbers f)) f.definitions
