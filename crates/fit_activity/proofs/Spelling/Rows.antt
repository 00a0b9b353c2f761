-- Fields made from the rows of a table.
use Rattle.std.proofs.Common.{◌≡◌, ℕ, ◌+◌, ◌≤◌, ◌<◌, List, [], ◌∷◌, length, map, Option, Some, None, refl, sym, ap, ◌∙◌, subst, arith, rules}
use Rattle.std.specs.List.{AllByRecursion}
use Rattle.std.proofs.lemmas.List.Sums.{sum_by-cons}
use Rattle.fit_base.specs.Base.{row_of}
use Rattle.fit_activity.specs.declared.speaking.profile_field.ProfileField.{ProfileField}
use Rattle.fit_activity.specs.Rides.Fields.{SampleField, sample_rows}
use Rattle.fit_activity.specs.Rides.Table.{ValuesFit, AreShort, Ascend}
use Rattle.fit_activity.specs.Messages.ProfileField.{profile_field, message_field, OptionFits, IsShortField, present, content_length}
use Rattle.fit_activity.specs.Messages.ProfileMessage.{fields_by}
use Rattle.fit_activity.specs.Private.Reader.{Lack, fields_in_rows}

-- the rows of a sample's table are short
pub sample-rows-short : AreShort sample_rows
sample-rows-short = search rules

pub sample-rows-ascend : Ascend 0 sample_rows
sample-rows-ascend = search rules

-- fields whose values fit
pub rows-fit : (rows : List SampleField) (values : List (Option ℕ)) → AreShort rows → ValuesFit rows values → AllByRecursion OptionFits (fields_by rows values)
rows-fit [] values short fits = tt
rows-fit (row ∷ rows) [] short fits = tt
rows-fit (row ∷ rows) (None ∷ values) short fits = (tt, rows-fit rows values short.1 fits.1)
rows-fit (row ∷ rows) (Some value ∷ values) short fits = (record { value = fits.0; short = short.0 }, rows-fit rows values short.1 fits.1)

pub rows-short : (rows : List SampleField) (values : List (Option ℕ)) → AreShort rows → AllByRecursion IsShortField (present (fields_by rows values))
rows-short [] values short = tt
rows-short (row ∷ rows) [] short = tt
rows-short (row ∷ rows) (None ∷ values) short = rows-short rows values short.1
rows-short (row ∷ rows) (Some value ∷ values) short = (short.0, rows-short rows values short.1)

-- the present fields have at most the length of all rows
abbrev pub rows_length : List SampleField → ℕ
rows_length [] = 0
rows_length (row ∷ rows) = (row_of row.1).size + rows_length rows

pub rows-content : (rows : List SampleField) (values : List (Option ℕ)) → content_length (present (fields_by rows values)) ≤ rows_length rows
rows-content [] values = omega arith
rows-content (row ∷ rows) [] = omega arith
rows-content (row ∷ rows) (None ∷ values) = omega (arith, rows-content rows values)
rows-content (row ∷ rows) (Some value ∷ values) =
    omega (arith, rows-content rows values, sum_by-cons (λ (f : ProfileField). (row_of f.base).size) (profile_field row.0 row.1 value) (present (fields_by rows values)))

-- no present field has a number below those of the rows, or that of a timestamp
pub lack : (rows : List SampleField) (values : List (Option ℕ)) (number from : ℕ) → number < from → Ascend from rows → Lack number (fields_in_rows rows values)
lack [] values number from below up = tt
lack (row ∷ rows) [] number from below up = tt
lack (row ∷ rows) (None ∷ values) number from below up = lack rows values number (row.0 + 1) (omega (arith, below, up.0)) up.2
lack (row ∷ rows) (Some value ∷ values) number from below up =
    ((λ same. omega (arith, below, up.0, same)), lack rows values number (row.0 + 1) (omega (arith, below, up.0)) up.2)

pub lack-time : (rows : List SampleField) (values : List (Option ℕ)) (from : ℕ) → Ascend from rows → Lack 253 (fields_in_rows rows values)
lack-time [] values from up = tt
lack-time (row ∷ rows) [] from up = tt
lack-time (row ∷ rows) (None ∷ values) from up = lack-time rows values (row.0 + 1) up.2
lack-time (row ∷ rows) (Some value ∷ values) from up = ((λ same. omega (arith, up.1, same)), lack-time rows values (row.0 + 1) up.2)

-- so the fields determine the values
abbrev pub first_value : List ProfileField → ℕ
first_value [] = 0
first_value (field ∷ fields) = field.value

pub same-values : (rows : List SampleField) (values others : List (Option ℕ)) (from : ℕ) → Ascend from rows
    → length values ≡ length rows → length others ≡ length rows
    → present (fields_by rows values) ≡ present (fields_by rows others) → values ≡ others
same-values [] [] [] from up long wide same = refl
same-values [] (v ∷ vs) others from up long wide same = absurd (omega (arith, long))
same-values [] [] (o ∷ os) from up long wide same = absurd (omega (arith, wide))
same-values (row ∷ rows) [] others from up long wide same = absurd (omega (arith, long))
same-values (row ∷ rows) (v ∷ vs) [] from up long wide same = absurd (omega (arith, wide))
same-values (row ∷ rows) (None ∷ vs) (None ∷ os) from up long wide same =
    ap (λ xs. None ∷ xs) (same-values rows vs os (row.0 + 1) up.2 (omega (arith, long)) (omega (arith, wide)) same)
same-values (row ∷ rows) (Some v ∷ vs) (None ∷ os) from up long wide same =
    absurd ((subst (λ fields. Lack row.0 (map message_field fields)) (sym same) (lack rows os row.0 (row.0 + 1) (omega arith) up.2)).0 refl)
same-values (row ∷ rows) (None ∷ vs) (Some o ∷ os) from up long wide same =
    absurd ((subst (λ fields. Lack row.0 (map message_field fields)) same (lack rows vs row.0 (row.0 + 1) (omega arith) up.2)).0 refl)
same-values (row ∷ rows) (Some v ∷ vs) (Some o ∷ os) from up long wide same =
    let first : v ≡ o = ap first_value same in
    let rest : present (fields_by rows vs) ≡ present (fields_by rows os) = cc in
    ap (λ x. Some x ∷ vs) first ∙ ap (λ xs. Some o ∷ xs) (same-values rows vs os (row.0 + 1) up.2 (omega (arith, long)) (omega (arith, wide)) rest)
