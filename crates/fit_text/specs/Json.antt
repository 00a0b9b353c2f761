-- A file as JSON: a line for its header, a line for each message, and a line that counts them. Each line is a JSON object (RFC 8259).
-- The names, the dates and the numbers are those of the shown text.
use Rattle.std.specs.Prelude.{ℕ, Bool, true, false, List, ◌++◌, codes, decimal, Option, Some, None}
use Rattle.fit_grammar.specs.Format.Message.{MessageField, MessageDeveloperField}
use Rattle.fit_grammar.specs.Format.File.{FileValue}
use Rattle.fit_text.specs.Date.{dates_of, date_in}
use Rattle.fit_text.specs.Form.{FileForm, lines_of}
use Rattle.fit_text.specs.Notation.{Notation}
use Rattle.fit_text.specs.Text.{field_name}
use Rattle.fit_text.specs.Values.{bytes_as, quoted, shown_as, string_as}
use Rattle.fit_profile.specs.Facts.{FieldFacts}
use Rattle.fit_profile.specs.Known.{known_at, known_named}

-- an invalid value is null; bytes and dates are strings, several numbers an array; a string is UTF-8, and one that is not is read as Latin-1
abbrev pub json_notation : Notation
json_notation =
    record {
      header = codes "{\"header\":";
      protocol = codes ",\"protocol\":\"";
      profile = codes "\",\"profile\":";
      records = codes ",\"data\":";
      header_end = codes "}\n";
      count = codes "{\"messages\":";
      count_end = codes "}\n";
      between = codes ",";
      middle = codes "},\"developer\":[";
      end = codes "]}\n";
      empty = false;
      invalid = codes "null";
      nothing = codes "null";
      mark = codes "\"";
      opening = codes "[";
      closing = codes "]";
      escape = codes "\\u00";
      utf8 = true;
    }

-- a string up to its first zero byte
abbrev pub string_json : List ℕ → List ℕ
string_json bytes = string_as json_notation bytes

-- a field with its name, if the fields of these numbers are dates
abbrev pub field_json : List FieldFacts → List ℕ → MessageField → List ℕ
field_json names dates field =
    quoted (field_name names field.number) ++ codes ":"
    ++ shown_as json_notation (date_in dates field) field

-- how the object of a developer field begins: with the index of its developer data, and its number
abbrev pub developer_key : ℕ → ℕ → List ℕ
developer_key index number =
    (codes "{\"index\":" ++ decimal index) ++ (codes ",\"number\":" ++ decimal number)

-- a developer field by its bytes
abbrev pub developer_json : MessageDeveloperField → List ℕ
developer_json field =
    developer_key field.index field.number
    ++ (codes ",\"bytes\":" ++ (bytes_as json_notation field.bytes ++ codes "}"))

-- the name of a message, if it has one
abbrev pub name_json : Option (List ℕ) → List ℕ
name_json None = codes "null"
name_json (Some name) = quoted name

-- how the line of a message begins: with its place among the messages, its global number, and its name
abbrev pub head_json : (ℕ → Option (List ℕ)) → ℕ → ℕ → List ℕ
head_json name number global =
    codes "{\"number\":" ++ decimal number ++ codes ",\"message\":" ++ decimal global
    ++ codes ",\"name\":" ++ name_json (name global) ++ codes ",\"fields\":{"

-- with these names, fields as members, and developer fields as objects
abbrev pub json_form : (ℕ → Option (List ℕ)) → (Bool → ℕ → MessageField → List ℕ)
    → (ℕ → MessageDeveloperField → List ℕ) → FileForm
json_form name field developer =
    record {
      notation = json_notation;
      head = head_json name;
      field = field;
      developer = developer;
    }

-- with the names of the shown text
abbrev pub known_form : FileForm
known_form =
    json_form known_named (λ utc global. field_json (known_at global) (dates_of utc global))
    (λ number. developer_json)

-- with times as dates in UTC, or as numbers
unfoldable pub json_of : Bool → FileValue → List ℕ
json_of utc v = lines_of known_form utc v
