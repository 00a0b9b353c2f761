-- Fields put one after another.
use Rattle.std.proofs.Common.{◌≡◌, ℕ, zero, suc, ◌≤◌, ◌<◌, List, [], ◌∷◌, ◌++◌, length, map, flat_map, Option, Some, None, refl, sym, ap, ◌∙◌, subst, arith, append-nil, append_assoc, length-append, ◌-◌, get_or, take, drop}
use Rattle.std.proofs.Math.Seq.{take-length}
use Rattle.std.specs.Int.{bytes_low_first}
use Rattle.std.specs.List.{AllByRecursion, cons_option}
use Rattle.std.proofs.lemmas.List.{length_push}
use Rattle.std.proofs.lemmas.List.Sums.{sum_by-cons}
use Rattle.fit_base.specs.Base.{row_of}
use Rattle.fit_grammar.specs.declared.definition.FieldDefinition.{FieldDefinition}
use Rattle.fit_grammar.specs.declared.definition.Definition.{Definition}
use Rattle.fit_activity.specs.declared.recording.entry.Sample.{Sample as AnySample}
use Rattle.fit_activity.specs.declared.speaking.profile_field.ProfileField.{ProfileField}
use Rattle.fit_activity.specs.Messages.SpokenMessage.{SpokenMessage}
use Rattle.fit_activity.specs.Messages.ProfileField.{ProfileFieldFits, OptionFits, present, field_definition, field_content, content_length}
use Rattle.fit_activity.specs.Messages.ProfileMessage.{sample_options, sample_fields}
use Rattle.fit_activity.specs.Messages.MessageBytes.{CanPut, HasPut}
use Rattle.fit_activity.specs.Rides.Fields.{sample_rows}
use Rattle.fit_activity.specs.Rides.Table.{raw_values, SampleFits}
use Rattle.fit_activity.proofs.Spelling.Rows.{rows-content, rows-fit, sample-rows-short}
use Rattle.fit_activity.proofs.RunningTotals.Pushed.{length-filter_map-le}

pub length-bytes : (i k n : ℕ) → length (bytes_low_first i k n) ≡ k
length-bytes i zero n = refl
length-bytes i (suc k) n = ap suc (length-bytes (suc i) k n)

abbrev with_fields : Definition → List FieldDefinition → Definition
with_fields d fields = record d { fields = record { items = fields } }

-- a message between an old one and the finished one, and the fields that are left to put
pub record IsPutting (old now : SpokenMessage) (fields rest : List ProfileField) : Type 0 where
  pub head : now.definition ≡ with_fields old.definition now.definition.fields.items
  pub fields' : now.definition.fields.items ++ map field_definition rest ≡ old.definition.fields.items ++ map field_definition fields
  pub content : now.content ++ flat_map field_content rest ≡ old.content ++ flat_map field_content fields
  pub can : CanPut now rest

rest-after : {X : Type 0} (x : X) (xs : List X) → take (length (x ∷ xs) - 1) (drop 1 (x ∷ xs)) ≡ xs
rest-after x xs =
    let e : length (x ∷ xs) - 1 ≡ length xs = omega arith in ap (λ n. take n xs) e ∙ take-length xs

pub putting-none : (old : SpokenMessage) (fields : List ProfileField) → CanPut old fields → IsPutting old old fields fields
putting-none old fields can = record { head = refl; fields' = refl; content = refl; can = can }

pub putting-one : (old now new : SpokenMessage) (fields rest : List ProfileField) (field : ProfileField)
    → new.definition ≡ record now.definition { fields = record { items = now.definition.fields.items ++ field_definition field ∷ [] } }
    → new.content ≡ now.content ++ field_content field
    → IsPutting old now fields (field ∷ rest) → IsPutting old new fields rest
putting-one old now new fields rest field definition content is =
    let items = ap (λ d. d.fields.items) definition in
    let added = length_push now.definition.fields.items (field_definition field) in
    let bytes = length-append now.content (field_content field) in
    let own = length-bytes 0 (row_of field.base).size field.value in
    let total = sum_by-cons (λ f. (row_of f.base).size) field rest in record {
      head = definition ∙ ap (λ d. with_fields d (now.definition.fields.items ++ field_definition field ∷ [])) is.head
          ∙ ap (λ xs. with_fields old.definition xs) (sym items);
      fields' = ap (λ xs. xs ++ map field_definition rest) items
          ∙ append_assoc now.definition.fields.items (field_definition field ∷ []) (map field_definition rest) ∙ is.fields';
      content = ap (λ xs. xs ++ flat_map field_content rest) content
          ∙ append_assoc now.content (field_content field) (flat_map field_content rest) ∙ is.content;
      can = record {
        fit = is.can.fit.1;
        few = omega (arith, is.can.few, ap length items, added);
        short = omega (arith, is.can.short, ap length content, bytes, own, total);
      };
    }

-- the same, by the first of the fields that are left
pub putting-next : (old now new : SpokenMessage) (fields rest : List ProfileField) (d : ProfileField) → 1 ≤ length rest
    → new.definition ≡ record now.definition { fields = record { items = now.definition.fields.items ++ field_definition (get_or rest 0 d) ∷ [] } }
    → new.content ≡ now.content ++ field_content (get_or rest 0 d)
    → IsPutting old now fields rest → IsPutting old new fields (take (length rest - 1) (drop 1 rest))
putting-next old now new fields [] d some definition content is = absurd (omega arith)
putting-next old now new fields (field ∷ rest) d some definition content is =
    subst (IsPutting old new fields) (sym (rest-after field rest)) (putting-one old now new fields rest field definition content is)

-- the next field has room
pub putting-can : (old now : SpokenMessage) (fields rest : List ProfileField) (field : ProfileField) → IsPutting old now fields (field ∷ rest) → CanPut now (field ∷ [])
putting-can old now fields rest field is =
    let total = sum_by-cons (λ f. (row_of f.base).size) field rest in
    let one = sum_by-cons (λ f. (row_of f.base).size) field [] in record {
      fit = (is.can.fit.0, tt);
      few = omega (arith, is.can.few);
      short = omega (arith, is.can.short, total, one);
    }

pub putting-first : (old now : SpokenMessage) (fields rest : List ProfileField) (d : ProfileField) → 1 ≤ length rest → IsPutting old now fields rest
    → CanPut now (get_or rest 0 d ∷ [])
putting-first old now fields [] d some is = absurd (omega arith)
putting-first old now fields (field ∷ rest) d some is = putting-can old now fields rest field is

pub putting-all : (old now : SpokenMessage) (fields rest : List ProfileField) → length rest < 1 → IsPutting old now fields rest → HasPut old fields now
putting-all old now fields (field ∷ rest) none is = absurd (omega arith)
putting-all old now fields [] none is =
    let items = sym (append-nil now.definition.fields.items) ∙ is.fields' in record {
      definition = is.head ∙ ap (λ xs. with_fields old.definition xs) items;
      content = sym (append-nil now.content) ∙ is.content;
    }

-- the fields that are present, from the first one on
present-by : (o : Option ProfileField) (rest : List (Option ProfileField)) (first : Option ProfileField) → o ≡ first → present (o ∷ rest) ≡ cons_option first (present rest)
present-by o rest first is = ap (λ v. cons_option v (present rest)) is

pub present-first : (rest : List (Option ProfileField)) (d first : Option ProfileField) → 1 ≤ length rest → get_or rest 0 d ≡ first
    → present rest ≡ cons_option first (present (take (length rest - 1) (drop 1 rest)))
present-first [] d first some is = absurd (omega arith)
present-first (o ∷ rest) d first some is = present-by o rest first is ∙ ap (λ xs. cons_option first (present xs)) (sym (rest-after o rest))

pub putting-end : (old now : SpokenMessage) (fields : List ProfileField) (rest : List (Option ProfileField)) → length rest < 1 → IsPutting old now fields (present rest) → HasPut old fields now
putting-end old now fields (o ∷ rest) none is = absurd (omega arith)
putting-end old now fields [] none is = putting-all old now fields [] (omega arith) is

-- if each option fits, the fields that are present fit
present-fit-by : (o : Option ProfileField) (rest : List (Option ProfileField)) → OptionFits o → AllByRecursion ProfileFieldFits (present rest) → AllByRecursion ProfileFieldFits (present (o ∷ rest))
present-fit-by None rest own fit = fit
present-fit-by (Some field) rest own fit = (own, fit)

pub present-fit : (fields : List (Option ProfileField)) → AllByRecursion OptionFits fields → AllByRecursion ProfileFieldFits (present fields)
present-fit [] fit = tt
present-fit (o ∷ rest) fit = present-fit-by o rest fit.0 (present-fit rest fit.1)

-- the present fields have room in a message that has at most one field
pub present-can : (m : SpokenMessage) (fields : List (Option ProfileField)) → length m.definition.fields.items ≤ 1 → length m.content ≤ 4 → length fields ≤ 14
    → content_length (present fields) ≤ 37 → AllByRecursion OptionFits fields → CanPut m (present fields)
present-can m fields one four few short fit =
    let less = length-filter_map-le (λ (field : Option ProfileField). field) fields in record {
      fit = present-fit fields fit;
      few = omega (arith, one, less, few);
      short = omega (arith, four, short);
    }

-- a sample's fields fit
pub sample-fit : (s : AnySample) → SampleFits s → AllByRecursion OptionFits (sample_options s)
sample-fit s fits = rows-fit sample_rows (raw_values s) sample-rows-short fits.values

pub options-fit : (s : AnySample) (fields : List (Option ProfileField)) → fields ≡ sample_options s → SampleFits s → AllByRecursion OptionFits fields
options-fit s fields is fits = subst (AllByRecursion OptionFits) (sym is) (sample-fit s fits)

pub sample-short : (s : AnySample) → content_length (sample_fields s) ≤ 37
sample-short s = omega (arith, rows-content sample_rows (raw_values s))

pub options-short : (s : AnySample) (fields : List (Option ProfileField)) → fields ≡ sample_options s → content_length (present fields) ≤ 37
options-short s fields is = subst (λ all. content_length (present all) ≤ 37) (sym is) (sample-short s)
