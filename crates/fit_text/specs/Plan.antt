-- How the messages of a definition are shown: what is settled when its first message is read.
use Rattle.std.specs.Prelude.{◌≡◌, ℕ, ◌+◌, ◌-◌, ◌*◌, ◌^◌, ◌<◌, ◌≤◌, Bool, true, false, not, List, [], ◌∷◌, ◌++◌, length, take, drop, slice_index_or as get_or, slice_range, Option, Some, None, codes, decimal, nat_le, ◌==◌, ◌&&◌, nat_lt, if◌then◌else◌}
use Rattle.std.specs.Int.{to_le_bytes, w32}
use Rattle.std.specs.List.{flat_map, join_by}
use Rattle.fit_base.specs.declared.order.Arch.{Arch}
use Rattle.fit_base.specs.declared.order.Arch.TheVariants.{Little}
use Rattle.fit_base.specs.declared.base.BaseType.{BaseType}
use Rattle.fit_base.specs.declared.base.BaseType.TheVariants.{Uint32}
use Rattle.fit_base.specs.Base.{row_of, base_type}
use Rattle.fit_base.specs.Number.{number as number_by}
use Rattle.fit_base.specs.Value.{IsValueSize, values_of}
use Rattle.fit_grammar.specs.declared.definition.FieldDefinition.{FieldDefinition}
use Rattle.fit_grammar.specs.declared.definition.DeveloperFieldDefinition.{DeveloperFieldDefinition}
use Rattle.fit_grammar.specs.declared.definition.Definition.{Definition}
use Rattle.fit_grammar.specs.Format.Message.{MessageField}
use Rattle.fit_text.specs.declared.form.plan.Kind.{Kind}
use Rattle.fit_text.specs.declared.form.plan.Kind.TheVariants.{Unsigned, Signed, Date, Other}
use Rattle.fit_text.specs.declared.form.plan.Column.{Column}
use Rattle.fit_text.specs.declared.form.plan.Plan.{Plan}
use Rattle.fit_text.specs.declared.form.plans.Plans.{Plans}
use Rattle.fit_text.specs.Date.{dates_of, date_in, date_text}
use Rattle.fit_text.specs.Form.{shown}
use Rattle.fit_text.specs.Notation.{Notation}
use Rattle.fit_text.specs.Text.{message_name, field_name}
use Rattle.fit_text.specs.Values.{IsNumber, marked, number_as, quoted, shown_as, values_as}
use Rattle.fit_profile.specs.Known.{known_at}

-- ---- kinds

-- the field of this number and base type with these bytes
abbrev pub field_at : ℕ → ℕ → Arch → List ℕ → MessageField
field_at number base arch bytes =
    record {
      number = number;
      base = base;
      values = values_of (record { base = base; arch = arch; bytes = bytes });
    }

-- the values of such a field, if the fields of these numbers are shown as dates
abbrev pub shown_at : Notation → List ℕ → ℕ → ℕ → Arch → List ℕ → List ℕ
shown_at notation dates number base arch bytes =
    let field = field_at number base arch bytes in shown_as notation (date_in dates field) field

-- a whole number of some bytes, or `none` for the invalid value; with a sign, that is the greatest value, and a number past it is negative
abbrev pub unsigned_of : List ℕ → ℕ → ℕ → List ℕ
unsigned_of none invalid n = if n == invalid then none else decimal n

abbrev pub signed_of : List ℕ → ℕ → ℕ → List ℕ
signed_of none invalid n =
    if n == invalid then none else if nat_lt n (invalid + 1)
    then decimal n else 45 ∷ decimal (2 * invalid + 2 - n)

-- a time as a date, if it is a calendar time
abbrev pub date_of : Notation → ℕ → List ℕ
date_of notation n =
    if nat_le 268435456 n && not (n == 4294967295)
    then marked notation (date_text n) else unsigned_of notation.invalid 4294967295 n

-- what a field of this kind and base type shows
abbrev pub kind_text : Notation → Kind → ℕ → Arch → List ℕ → List ℕ
kind_text notation (Unsigned invalid) base arch bytes =
    unsigned_of notation.invalid invalid (number_by arch bytes)
kind_text notation (Signed invalid) base arch bytes =
    signed_of notation.invalid invalid (number_by arch bytes)
kind_text notation Date base arch bytes = date_of notation (number_by arch bytes)
kind_text notation Other base arch bytes =
    values_as notation (number_as notation) (base_type base)
    (values_of (record { base = base; arch = arch; bytes = bytes }))

-- a kind fits fields of this size
abbrev pub IsSized : ℕ → Kind → Type 0
IsSized size (Unsigned invalid) = IsValueSize size
IsSized size (Signed invalid) = IsValueSize size × (256 ^ size ≡ 2 * invalid + 2)
IsSized size Date = size ≡ 4
IsSized size Other = Unit {0}

-- a number that so many bytes can hold, where a kind needs that
abbrev pub IsHeld : ℕ → Kind → ℕ → Type 0
IsHeld size (Signed invalid) n = n < 256 ^ size
IsHeld size _ n = Unit {0}

-- the kind of the fields of this number, base type and size
pub record IsKind (dates : List ℕ) (number base size : ℕ) (kind : Kind) : Type 0 where
  pub sized : IsSized size kind
  pub shows : (notation : Notation) (arch : Arch) (bytes : List ℕ) → length bytes ≡ size
      → IsHeld size kind (number_by arch bytes)
      → kind_text notation kind base arch bytes ≡ shown_at notation dates number base arch bytes

-- ---- columns

-- what a column has of the fields that it shows: the label and the kind
pub record IsNamed (utc : Bool) (global : ℕ) (column : Column) : Type 0 where
  pub label : column.label ≡ codes " " ++ field_name (known_at global) column.number ++ codes "="
  pub kind : IsKind (dates_of utc global) column.number column.base column.size column.kind

abbrev pub AreNamed : Bool → ℕ → List Column → Type 0
AreNamed utc global [] = Unit {0}
AreNamed utc global (column ∷ columns) =
    IsNamed utc global column × AreNamed utc global columns

-- a column that shows this field of each message
pub record IsColumn (utc : Bool) (global : ℕ) (field : FieldDefinition)
    (column : Column) : Type 0 where
  pub number : column.number ≡ field.number
  pub base : column.base ≡ field.base
  pub size : column.size ≡ field.size
  pub named : IsNamed utc global column

-- columns that show these fields, in their order
abbrev pub AreColumns : Bool → ℕ → List FieldDefinition → List Column → Type 0
AreColumns utc global [] [] = Unit {0}
AreColumns utc global (field ∷ fields) (column ∷ columns) =
    IsColumn utc global field column × AreColumns utc global fields columns
AreColumns utc global _ _ = ⊥

-- the definition that the field of a compressed timestamp would have
abbrev pub time_field_definition : FieldDefinition
time_field_definition = record { number = 253; size = 4; base = 0x86 }

-- ---- plans

abbrev pub has_size : FieldDefinition → Bool
has_size field = not (field.size == 0)

abbrev pub has_developer_size : DeveloperFieldDefinition → Bool
has_developer_size field = not (field.size == 0)

-- a definition of the fields of another that are shown
pub record IsShown (empty : Bool) (d own : Definition) : Type 0 where
  pub arch : own.arch ≡ d.arch
  pub global : own.global ≡ d.global
  pub fields : own.fields.items ≡ shown empty has_size d.fields.items
  pub developer : own.developer.items ≡ shown empty has_developer_size d.developer.items

-- a plan for a definition, with its columns and its developer fields. Fields without bytes have none unless `empty` is set
pub record IsPlanOf (empty : Bool) (d : Definition) (plan : Plan)
    (columns : List Column) (last : List DeveloperFieldDefinition) : Type 0 where
  pub arch : plan.arch ≡ d.arch
  pub global : plan.global ≡ d.global
  pub name : plan.name ≡ codes " " ++ message_name d.global
  pub time : IsColumn plan.utc d.global time_field_definition plan.time
  pub fields : AreColumns plan.utc d.global (shown empty has_size d.fields.items) columns
  pub developer : last ≡ shown empty has_developer_size d.developer.items

-- the same, with the columns and the developer fields in rows that several plans share
pub record IsPlanIn (row : List Column)
    (developer_row : List DeveloperFieldDefinition) (utc empty : Bool) (d : Definition)
    (plan : Plan) : Type 0 where
  pub dated : plan.utc ≡ utc
  pub order : plan.first ≤ plan.end
  pub inside : plan.end ≤ length row
  pub developer_order : plan.developer_first ≤ plan.developer_end
  pub developer_inside : plan.developer_end ≤ length developer_row
  pub is : IsPlanOf empty d plan (slice_range row plan.first plan.end)
      (slice_range developer_row plan.developer_first plan.developer_end)

-- the plan of a local number is for this definition
pub record IsPlanAt (plans : Plans) (local : ℕ) (d : Definition) : Type 0 where
  pub plan : Plan
  pub there : get_or plans.slots local None ≡ Some plan
  pub is : IsPlanIn plans.columns.items plans.developer.items plans.utc plans.empty d plan

-- each local number's plan, if it has one, is for its definition in force
abbrev pub ArePlansFor : (ℕ → Option Definition) → Plans → Type 0
ArePlansFor definition_for plans =
    (local : ℕ) (d : Definition) (plan : Plan) → get_or plans.slots local None ≡ Some plan
    → definition_for local ≡ Some d
    → IsPlanIn plans.columns.items plans.developer.items plans.utc plans.empty d plan

-- ---- a message by its plan

-- what is in front of a text that is one of several, if it is not the first
abbrev pub separator : List ℕ → Bool → List ℕ
separator between is_first = if is_first then [] else between

-- the texts of these, with `between` between them, and in front if they are not the first
abbrev pub joined : {X : Type 0} → List ℕ → Bool → (X → List ℕ) → List X → List ℕ
joined between is_first f xs =
    if is_first then join_by f between xs else flat_map (λ x. between ++ f x) xs

-- a label without its first and its last byte
abbrev pub inner : List ℕ → List ℕ
inner label = take (length label - 2) (drop 1 label)

-- the name in a label as that of a member of a JSON object
abbrev pub member_name : Bool → List ℕ → List ℕ
member_name is_first label = separator (codes ",") is_first ++ (quoted (inner label) ++ codes ":")

-- the field of a column, over its bytes
abbrev pub field_in : Column → Arch → List ℕ → MessageField
field_in column arch bytes = field_at column.number column.base arch bytes

-- the fields of columns, where `text` is that of a field
abbrev pub columns_text : List ℕ → Bool → (MessageField → List ℕ) → Arch → List Column → List ℕ
    → List ℕ
columns_text between is_first text arch [] content = []
columns_text between is_first text arch (column ∷ columns) content =
    (separator between is_first ++ text (field_in column arch (take column.size content)))
    ++ columns_text between false text arch columns (drop column.size content)

-- what a column shows of the time of a compressed timestamp, if there is one
abbrev pub time_text : (MessageField → List ℕ) → Column → Option ℕ → List ℕ
time_text text column None = []
time_text text column (Some time) = text (field_in column Little (to_le_bytes w32 time))

-- ---- one value of a type

-- what a number of this type shows
abbrev pub number_by_kind : List ℕ → Kind → ℕ → List ℕ
number_by_kind none (Unsigned invalid) n = unsigned_of none invalid n
number_by_kind none (Signed invalid) n = signed_of none invalid n
number_by_kind none _ n = []

pub record IsWholeOf (type : BaseType) (kind : Kind) : Type 0 where
  pub numbers : IsNumber type
  pub shows : (notation : Notation) (n : ℕ) → IsHeld (row_of type).size kind n
      → number_by_kind notation.invalid kind n ≡ number_as notation type n

-- not a date
abbrev pub IsNoDate : Bool → BaseType → Type 0
IsNoDate is_time type = is_time ≡ true → type ≡ Uint32 → ⊥

-- the kind of one value of this type, in a field that may hold a time
abbrev pub IsKindOf : Bool → BaseType → Kind → Type 0
IsKindOf is_time type (Unsigned invalid) =
    IsWholeOf type (Unsigned invalid) × IsNoDate is_time type
IsKindOf is_time type (Signed invalid) =
    IsWholeOf type (Signed invalid) × IsNoDate is_time type
    × (256 ^ (row_of type).size ≡ 2 * invalid + 2)
IsKindOf is_time type Date = (is_time ≡ true) × (type ≡ Uint32)
IsKindOf is_time type Other = type ≡ Uint32 → ⊥
