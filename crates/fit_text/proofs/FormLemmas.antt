-- The line of a message by its parts, and from one field to the next: for `form`, `text` and `json`.
use Rattle.std.proofs.Common.{◌≡◌, ℕ, ◌+◌, ◌-◌, ◌/◌, ◌%◌, ◌^◌, ◌<◌, ◌≤◌, Bool, true, false, List, [], ◌∷◌, ◌++◌, length, get_or, take, drop, sum_by, refl, sym, ap, ◌∙◌, append_assoc, codes, decimal, Option, Some, None, IfSome, arith}
use Rattle.std.specs.Prelude.{not, option_map}
use Rattle.std.specs.Borrow.{Bor}
use Rattle.std.proofs.lemmas.List.{take_all, length-append, length-drop}
use Rattle.std.proofs.lemmas.List.Sums.{sum_by-cons}
use Rattle.std.proofs.Math.Seq.{take-append_seam}
use Rattle.std.specs.Int.{to_le_bytes, w32}
use Rattle.std.specs.List.{join_by}
use Rattle.std.specs.Option.{is_none}
use Rattle.fit_base.specs.declared.order.Arch.{Arch}
use Rattle.fit_base.specs.declared.order.Arch.TheVariants.{Little}
use Rattle.fit_base.specs.Number.{low_first, number as number_by}
use Rattle.fit_grammar.specs.declared.definition.Definition.{Definition}
use Rattle.fit_grammar.specs.declared.definition.FieldDefinition.{FieldDefinition}
use Rattle.fit_grammar.specs.declared.definition.DeveloperFieldDefinition.{DeveloperFieldDefinition}
use Rattle.fit_grammar.specs.declared.file.frame.Frame.{Frame}
use Rattle.fit_grammar.specs.Format.File.{FileValue}
use Rattle.fit_grammar.specs.Format.Records.{data_size}
use Rattle.fit_grammar.specs.Format.Item.{content_size, developer_size, fields_size}
use Rattle.fit_grammar.specs.Format.Message.{Message, MessageField, MessageDeveloperField, developer_of, fields_of, time_field, time_fields, message_under, messages_of}
use Rattle.fit_text.specs.declared.form.plan.Column.{Column}
use Rattle.fit_text.specs.declared.form.plan.Plan.{Plan}
use Rattle.fit_text.specs.Date.{dates_of}
use Rattle.fit_text.specs.Form.{FileForm, shown, has_bytes, has_developer_bytes, line_of, numbered, header_as, count_as, lines_of}
use Rattle.fit_text.specs.Json.{developer_key, field_json, head_json, json_notation, name_json}
use Rattle.fit_text.specs.Notation.{Notation}
use Rattle.fit_text.specs.Plan.{field_at, shown_at, kind_text, IsHeld, IsNamed, AreNamed, IsColumn, AreColumns, IsPlanOf, time_field_definition, has_size, has_developer_size, separator, joined, inner, member_name, field_in, columns_text, time_text}
use Rattle.fit_text.specs.Text.{developer_text, field_name, field_text, message_name, text_notation}
use Rattle.fit_text.specs.Values.{hex_text, quoted}
use Rattle.fit_profile.specs.Known.{known_at}
use Rattle.fit_text.proofs.EmptyLemmas.{developer_shown, shown_size, timed_shown}
use Rattle.fit_text.proofs.PlanLemmas.{columns_size}

-- ---- files

regrouped_header : (a b c d e f g h i j k : List ℕ) →
    (a ++ b) ++ ((c ++ d) ++ ((e ++ f) ++ ((g ++ h) ++ ((i ++ j) ++ k)))) ≡ a ++ b ++ c ++ d ++ e ++ f ++ g ++ h ++ i ++ j ++ k
regrouped_header a b c d e f g h i j k = simp append_assoc

pub header_parts : (notation : Notation) (frame : Frame) (size a b c d e : ℕ) → a ≡ frame.header_size →
    b ≡ frame.protocol / 16 → c ≡ frame.protocol % 16 → d ≡ frame.profile → e ≡ size →
    (notation.header ++ decimal a) ++ ((notation.protocol ++ decimal b) ++ ((codes "." ++ decimal c)
    ++ ((notation.profile ++ decimal d) ++ ((notation.records ++ decimal e) ++ notation.header_end)))) ≡ header_as notation frame size
header_parts notation frame size a b c d e is_a is_b is_c is_d is_e =
    rw (is_a, is_b, is_c, is_d, is_e)
    (regrouped_header notation.header (decimal frame.header_size) notation.protocol (decimal (frame.protocol / 16)) (codes ".")
    (decimal (frame.protocol % 16)) notation.profile (decimal frame.profile) notation.records (decimal size) notation.header_end)

-- the parts of a file
pub file_parts : (form : FileForm) (utc : Bool) (notation : Notation) (v : FileValue) (frame : Frame) (size count : ℕ) →
    notation ≡ form.notation → frame ≡ v.frame → size ≡ data_size v.items → count ≡ length (messages_of v.items) →
    header_as notation frame size ++ (numbered (line_of form utc) (messages_of v.items) ++ count_as notation count) ≡ lines_of form utc v
file_parts form utc notation v frame size count is is_frame is_size is_count =
    rw (is, is_frame, is_size, is_count)
    (sym (append_assoc (header_as form.notation v.frame (data_size v.items)) (numbered (line_of form utc) (messages_of v.items))
    (count_as form.notation (length (messages_of v.items)))))

-- ---- fields

-- a column is that of its field, for every text of a field
field_is : (text : MessageField → List ℕ) (utc : Bool) (global : ℕ) (arch : Arch) (field : FieldDefinition) (column : Column)
    (bytes : List ℕ) → IsColumn utc global field column →
    text (field_in column arch bytes) ≡ text (field_at field.number field.base arch bytes)
field_is text utc global arch field column bytes h =
    ap (λ n. text (field_at n column.base arch bytes)) h.number ∙ ap (λ b. text (field_at field.number b arch bytes)) h.base

-- the first field after some text, and the others
next_is : (front between : List ℕ) (text : MessageField → List ℕ) (utc : Bool) (global : ℕ) (arch : Arch)
    (field : FieldDefinition) (column : Column) (columns : List Column) (content others : List ℕ) → IsColumn utc global field column →
    columns_text between false text arch columns (drop field.size content) ≡ others →
    (front ++ text (field_in column arch (take column.size content))) ++ columns_text between false text arch columns (drop column.size content)
    ≡ (front ++ text (field_at field.number field.base arch (take field.size content))) ++ others
next_is front between text utc global arch field column columns content others h rest =
    ap (λ n. (front ++ text (field_in column arch (take n content))) ++ columns_text between false text arch columns (drop n content)) h.size
    ∙ ap (λ t. (front ++ t) ++ columns_text between false text arch columns (drop field.size content))
    (field_is text utc global arch field column (take field.size content) h)
    ∙ ap (λ t. (front ++ text (field_at field.number field.base arch (take field.size content))) ++ t) rest

columns_after : (between : List ℕ) (text : MessageField → List ℕ) (utc : Bool) (global : ℕ) (arch : Arch)
    (fields : List FieldDefinition) (columns : List Column) (content : List ℕ) → AreColumns utc global fields columns →
    columns_text between false text arch columns content ≡ joined between false text (fields_of arch fields content)
columns_after between text utc global arch [] [] content h = refl
columns_after between text utc global arch [] (column ∷ columns) content h = absurd h
columns_after between text utc global arch (field ∷ fields) [] content h = absurd h
columns_after between text utc global arch (field ∷ fields) (column ∷ columns) content h =
    next_is between between text utc global arch field column columns content _ h.0
    (columns_after between text utc global arch fields columns (drop field.size content) h.1)

columns_are : (between : List ℕ) (first : Bool) (text : MessageField → List ℕ) (utc : Bool) (global : ℕ) (arch : Arch)
    (fields : List FieldDefinition) (columns : List Column) (content : List ℕ) → AreColumns utc global fields columns →
    columns_text between first text arch columns content ≡ joined between first text (fields_of arch fields content)
columns_are between false text utc global arch fields columns content h =
    columns_after between text utc global arch fields columns content h
columns_are between true text utc global arch [] [] content h = refl
columns_are between true text utc global arch [] (column ∷ columns) content h = absurd h
columns_are between true text utc global arch (field ∷ fields) [] content h = absurd h
columns_are between true text utc global arch (field ∷ fields) (column ∷ columns) content h =
    next_is [] between text utc global arch field column columns content _ h.0
    (columns_after between text utc global arch fields columns (drop field.size content) h.1)

-- ---- names and kinds

columns_named : (utc : Bool) (global : ℕ) (fields : List FieldDefinition) (columns : List Column) →
    AreColumns utc global fields columns → AreNamed utc global columns
columns_named utc global [] [] h = tt
columns_named utc global [] (column ∷ columns) h = absurd h
columns_named utc global (field ∷ fields) [] h = absurd h
columns_named utc global (field ∷ fields) (column ∷ columns) h = (h.0.named, columns_named utc global fields columns h.1)

pub plan_named : (empty : Bool) (d : Definition) (plan : Plan) (columns : List Column)
    (developer : List DeveloperFieldDefinition) → IsPlanOf empty d plan columns developer → AreNamed plan.utc plan.global columns
plan_named empty d plan columns developer h =
    rw h.global (columns_named plan.utc d.global (shown empty has_size d.fields.items) columns h.fields)

pub time_named : (empty : Bool) (d : Definition) (plan : Plan) (columns : List Column)
    (developer : List DeveloperFieldDefinition) → IsPlanOf empty d plan columns developer → IsNamed plan.utc plan.global plan.time
time_named empty d plan columns developer h = rw h.global h.time.named

-- ---- the line of a message

pub flipped : (a b : Bool) → a ≡ not b → b ≡ not a
flipped true true e = cc
flipped true false e = refl
flipped false true e = refl
flipped false false e = cc

fields_by : (between : List ℕ) (text : MessageField → List ℕ) (utc : Bool) (global : ℕ) (arch : Arch)
    (fields : List FieldDefinition) (columns : List Column) (content : List ℕ) (column : Column) (time : Option ℕ) →
    IfSome time (λ time. time < 2 ^ 32) → IsColumn utc global time_field_definition column → AreColumns utc global fields columns →
    time_text text column time ++ columns_text between (is_none time) text arch columns content
    ≡ join_by text between (time_fields time ++ fields_of arch fields content)
fields_by between text utc global arch fields columns content column None fits is are =
    columns_are between true text utc global arch fields columns content are
fields_by between text utc global arch fields columns content column (Some time) fits is are =
    let all : low_first (to_le_bytes w32 time) ≡ time = omega (arith, fits) in
    ap (λ t. t ++ columns_text between false text arch columns content)
    (field_is text utc global Little time_field_definition column (to_le_bytes w32 time) is ∙ ap (λ n. text (time_field n)) all)
    ∙ ap (λ t. text (time_field time) ++ t) (columns_are between false text utc global arch fields columns content are)

line_parts : (head times fields middle developer end : List ℕ) →
    head ++ (times ++ (fields ++ (middle ++ (developer ++ end)))) ≡ head ++ (times ++ fields) ++ middle ++ developer ++ end
line_parts head times fields middle developer end = simp append_assoc

whole_line : (head fields middle developer end : List ℕ) →
    head ++ (fields ++ (middle ++ (developer ++ end))) ≡ head ++ fields ++ middle ++ developer ++ end
whole_line head fields middle developer end = simp append_assoc

-- the line of a message begins so
pub line_head : (form : FileForm) (utc : Bool) (number global : ℕ) (m : Message) → global ≡ m.global →
    form.head number global ++ (join_by (form.field utc m.global) form.notation.between (shown form.notation.empty has_bytes m.fields)
    ++ (form.notation.middle ++ (join_by (form.developer number) form.notation.between (shown form.notation.empty has_developer_bytes m.developer)
    ++ form.notation.end))) ≡ line_of form utc number m
line_head form utc number global m is = rw is (whole_line (form.head number m.global) _ form.notation.middle _ form.notation.end)

-- the parts of the line, in their order
pub plan_line : (form : FileForm) (number : ℕ) (d : Definition) (time : Option ℕ) (content : List ℕ) (plan : Plan)
    (columns : List Column) (developer : List DeveloperFieldDefinition) (first : Bool) (middle end : List ℕ) →
    IfSome time (λ time. time < 2 ^ 32) → first ≡ is_none time → content_size d ≡ length content → middle ≡ form.notation.middle →
    end ≡ form.notation.end → IsPlanOf form.notation.empty d plan columns developer →
    form.head number plan.global
    ++ (time_text (form.field plan.utc plan.global) plan.time time
    ++ (columns_text form.notation.between first (form.field plan.utc plan.global) plan.arch columns content
    ++ (middle
    ++ (join_by (form.developer number) form.notation.between (developer_of plan.arch developer (drop (sum_by (λ c. c.size) columns) content))
    ++ end))))
    ≡ line_of form plan.utc number (message_under d time content)
plan_line form number d time content plan columns developer first middle end fits begins whole is_middle is_end h =
    let notation = form.notation in
    let own = form.field plan.utc d.global in
    let fields = shown notation.empty has_size d.fields.items in
    let size = columns_size plan.utc d.global fields columns h.fields ∙ shown_size notation.empty d.fields.items in
    let front : fields_size d ≤ length content = omega (arith, whole) in
    let back : developer_size d ≤ length (drop (fields_size d) content) = omega (arith, whole, length-drop (fields_size d) content) in
    let after = join_by (form.developer number) notation.between
    (developer_of d.arch (shown notation.empty has_developer_size d.developer.items) (drop (fields_size d) content)) in
    rw (begins, is_middle, is_end, h.global, h.arch, h.developer, size)
    (line_parts (form.head number d.global) (time_text own plan.time time) (columns_text notation.between (is_none time) own d.arch columns content)
    notation.middle after notation.end
    ∙ ap (λ t. form.head number d.global ++ t ++ notation.middle ++ after ++ notation.end)
    (fields_by notation.between own plan.utc d.global d.arch fields columns content plan.time time fits h.time h.fields)
    ∙ ap (λ fs. form.head number d.global ++ join_by own notation.between fs ++ notation.middle ++ after ++ notation.end)
    (timed_shown notation.empty time d.arch d.fields.items content front)
    ∙ ap (λ ds. form.head number d.global ++ join_by own notation.between (shown notation.empty has_bytes (message_under d time content).fields)
    ++ notation.middle ++ join_by (form.developer number) notation.between ds ++ notation.end)
    (developer_shown notation.empty d.arch d.developer.items (drop (fields_size d) content) back))

-- ---- developer fields

abbrev field_from : ℕ → ℕ → Arch → List ℕ → MessageDeveloperField
field_from index number arch bytes = record { index = index; number = number; arch = arch; bytes = bytes }

pub key_parts : (index number i n : ℕ) → i ≡ index → n ≡ number →
    (codes "{\"index\":" ++ decimal i) ++ (codes ",\"number\":" ++ decimal n) ≡ developer_key index number
key_parts index number i n is also = rw (is, also) refl

regrouped : (a b c d e f : List ℕ) → ((((a ++ b) ++ c) ++ d) ++ e) ++ f ≡ a ++ b ++ c ++ d ++ e ++ f
regrouped a b c d e f = simp append_assoc

-- the parts of one field's text
pub developer_parts : (index number : ℕ) (arch : Arch) (bytes : List ℕ) (i n : ℕ) → i ≡ index → n ≡ number →
    ((((codes " developer_" ++ decimal i) ++ codes "_") ++ decimal n) ++ codes "=") ++ hex_text bytes
    ≡ developer_text (field_from index number arch bytes)
developer_parts index number arch bytes i n is also =
    rw (is, also) (regrouped (codes " developer_") (decimal index) (codes "_") (decimal number) (codes "=") (hex_text bytes))

abbrev first : List DeveloperFieldDefinition → DeveloperFieldDefinition
first fields = get_or fields 0 (record { number = 0; size = 0; index = 0 })

abbrev others : List DeveloperFieldDefinition → List DeveloperFieldDefinition
others fields = take (length fields - 1) (drop 1 fields)

pub first_size : (fields : List DeveloperFieldDefinition) → 1 ≤ length fields →
    sum_by (λ f. f.size) fields ≡ (first fields).size + sum_by (λ f. f.size) (others fields)
first_size [] some = absurd (omega arith)
first_size (f ∷ fields) some =
    let rest : others (f ∷ fields) ≡ fields = take_all _ fields (omega arith) in
    rw rest (sum_by-cons (λ (f : DeveloperFieldDefinition). f.size) f fields)

next_by : (between : List ℕ) (text : MessageDeveloperField → List ℕ) (is_first : Bool) (arch : Arch) (f : DeveloperFieldDefinition)
    (fields : List DeveloperFieldDefinition) (content : List ℕ) →
    joined between is_first text (developer_of arch (f ∷ fields) content)
    ≡ (separator between is_first ++ text (field_from f.index f.number arch (take f.size content)))
    ++ joined between false text (developer_of arch fields (drop f.size content))
next_by between text true arch f fields content = refl
next_by between text false arch f fields content = refl

pub next_developer : (between : List ℕ) (text : MessageDeveloperField → List ℕ) (is_first : Bool) (arch : Arch)
    (fields : List DeveloperFieldDefinition) (content bytes after : List ℕ) (n : ℕ) → 1 ≤ length fields →
    bytes ≡ take n content → after ≡ drop n content → n ≡ (first fields).size →
    joined between is_first text (developer_of arch fields content)
    ≡ (separator between is_first ++ text (field_from (first fields).index (first fields).number arch bytes))
    ++ joined between false text (developer_of arch (others fields) after)
next_developer between text is_first arch [] content bytes after n some front back size = absurd (omega arith)
next_developer between text is_first arch (f ∷ fields) content bytes after n some front back size =
    let rest : others (f ∷ fields) ≡ fields = take_all _ fields (omega arith) in
    rw (front, back, size, rest) (next_by between text is_first arch f fields content)

pub no_developer : (between : List ℕ) (text : MessageDeveloperField → List ℕ) (is_first : Bool) (arch : Arch)
    (fields : List DeveloperFieldDefinition) (content : List ℕ) → length fields < 1 →
    joined between is_first text (developer_of arch fields content) ≡ []
no_developer between text true arch [] content none = refl
no_developer between text false arch [] content none = refl
no_developer between text is_first arch (f ∷ fields) content none = absurd (omega arith)

-- ---- columns

abbrev other_columns : List Column → List Column
other_columns columns = take (length columns - 1) (drop 1 columns)

pub next_column : (between : List ℕ) (is_first : Bool) (text : MessageField → List ℕ) (arch : Arch) (columns : List Column) (column : Column)
    (content bytes after : List ℕ) (n : ℕ) →
    1 ≤ length columns → column ≡ get_or columns 0 column → bytes ≡ take n content → after ≡ drop n content → n ≡ column.size →
    columns_text between is_first text arch columns content
    ≡ (separator between is_first ++ text (field_in column arch bytes)) ++ columns_text between false text arch (other_columns columns) after
next_column between is_first text arch [] column content bytes after n some is front back size = absurd (omega arith)
next_column between is_first text arch (c ∷ columns) column content bytes after n some is front back size =
    let rest : other_columns (c ∷ columns) ≡ columns = take_all _ columns (omega arith) in rw (front, back, size, is, rest) refl

pub no_column : (between : List ℕ) (is_first : Bool) (text : MessageField → List ℕ) (arch : Arch) (columns : List Column) (content : List ℕ) →
    length columns < 1 → columns_text between is_first text arch columns content ≡ []
no_column between is_first text arch [] content none = refl
no_column between is_first text arch (column ∷ columns) content none = absurd (omega arith)

pub first_named : (utc : Bool) (global : ℕ) (columns : List Column) (column : Column) → 1 ≤ length columns →
    column ≡ get_or columns 0 column → AreNamed utc global columns → IsNamed utc global column
first_named utc global [] column some is h = absurd (omega arith)
first_named utc global (c ∷ columns) column some is h = rw is h.0

pub other_named : (utc : Bool) (global : ℕ) (columns : List Column) → 1 ≤ length columns → AreNamed utc global columns →
    AreNamed utc global (other_columns columns)
other_named utc global [] some h = absurd (omega arith)
other_named utc global (c ∷ columns) some h =
    let rest : other_columns (c ∷ columns) ≡ columns = take_all _ columns (omega arith) in rw rest h.1

-- ---- the two forms

-- the head of a line of the text
pub head_text : (number global : ℕ) → decimal number ++ (codes " " ++ message_name global) ≡ decimal number ++ codes " " ++ message_name global
head_text number global = sym (append_assoc (decimal number) (codes " ") (message_name global))

no_separator : (is_first : Bool) (text : List ℕ) → text ≡ separator [] is_first ++ text
no_separator true text = refl
no_separator false text = refl

-- the text of a column is that of its field
pub column_text : (utc : Bool) (global : ℕ) (arch : Arch) (column : Column) (bytes : List ℕ) (is_first : Bool) →
    IsNamed utc global column → length bytes ≡ column.size → IsHeld column.size column.kind (number_by arch bytes) →
    column.label ++ kind_text text_notation column.kind column.base arch bytes
    ≡ separator [] is_first ++ field_text (known_at global) (dates_of utc global) (field_in column arch bytes)
column_text utc global arch column bytes is_first h long held =
    ap (λ t. column.label ++ t) (h.kind.shows text_notation arch bytes long held)
    ∙ ap (λ label. label ++ shown_at text_notation (dates_of utc global) column.number column.base arch bytes) h.label
    ∙ no_separator is_first _

inner_of : (name : List ℕ) → inner (codes " " ++ name ++ codes "=") ≡ name
inner_of name =
    let long : length (codes " " ++ name ++ codes "=") - 2 ≡ length name = omega (arith, length-append name (codes "=")) in
    ap (λ n. take n (name ++ codes "=")) long ∙ take-append_seam name (codes "=")

pub name_parts : (first : Bool) (name : List ℕ) →
    ((separator (codes ",") first ++ codes "\"") ++ name) ++ codes "\":" ≡ separator (codes ",") first ++ (quoted name ++ codes ":")
name_parts first name = simp append_assoc

member_parts : (front name value : List ℕ) →
    (front ++ (quoted name ++ codes ":")) ++ value ≡ front ++ (quoted name ++ codes ":" ++ value)
member_parts front name value = append_assoc front (quoted name ++ codes ":") value

-- the member of a column is that of its field
pub column_json : (utc : Bool) (global : ℕ) (arch : Arch) (column : Column) (bytes : List ℕ) (is_first : Bool) →
    IsNamed utc global column → length bytes ≡ column.size → IsHeld column.size column.kind (number_by arch bytes) →
    member_name is_first column.label ++ kind_text json_notation column.kind column.base arch bytes
    ≡ separator (codes ",") is_first ++ field_json (known_at global) (dates_of utc global) (field_in column arch bytes)
column_json utc global arch column bytes is_first h long held =
    ap (λ t. member_name is_first column.label ++ t) (h.kind.shows json_notation arch bytes long held)
    ∙ ap (λ label. member_name is_first label ++ shown_at json_notation (dates_of utc global) column.number column.base arch bytes) h.label
    ∙ ap (λ name. (separator (codes ",") is_first ++ (quoted name ++ codes ":"))
    ++ shown_at json_notation (dates_of utc global) column.number column.base arch bytes) (inner_of (field_name (known_at global) column.number))
    ∙ member_parts (separator (codes ",") is_first) (field_name (known_at global) column.number) _

-- what a line of JSON has before its fields, by its parts
regrouped_three : (a b c d : List ℕ) → a ++ (b ++ (c ++ d)) ≡ a ++ b ++ c ++ d
regrouped_three a b c d = simp append_assoc

pub head_parts : (name : ℕ → Option (List ℕ)) (number global g : ℕ) (title : Option (List ℕ)) → g ≡ global → title ≡ name global →
    (((codes "{\"number\":" ++ decimal number) ++ codes ",\"message\":") ++ decimal g)
    ++ (codes ",\"name\":" ++ (name_json title ++ codes ",\"fields\":{"))
    ≡ head_json name number global
head_parts name number global g title is titled =
    rw (is, titled)
    (regrouped_three (codes "{\"number\":" ++ decimal number ++ codes ",\"message\":" ++ decimal global) (codes ",\"name\":")
    (name_json (name global)) (codes ",\"fields\":{"))

name_begins : (name : List ℕ) →
    codes ",\"name\":\"" ++ (name ++ codes "\",\"fields\":{") ≡ codes ",\"name\":" ++ (quoted name ++ codes ",\"fields\":{")
name_begins name = ap (λ t. codes ",\"name\":\"" ++ t) (sym (append_assoc name (codes "\"") (codes ",\"fields\":{")))

pub some_begins : (o : Option (Bor (List ℕ))) (name : Bor (List ℕ)) → o ≡ Some name →
    codes ",\"name\":\"" ++ (name.now ++ codes "\",\"fields\":{")
    ≡ codes ",\"name\":" ++ (name_json (option_map (λ name. name.now) o) ++ codes ",\"fields\":{")
some_begins o name is = rw is (name_begins name.now)

pub none_begins : (o : Option (Bor (List ℕ))) → o ≡ None →
    codes ",\"name\":null,\"fields\":{" ≡ codes ",\"name\":" ++ (name_json (option_map (λ name. name.now) o) ++ codes ",\"fields\":{")
none_begins o is = rw is refl
