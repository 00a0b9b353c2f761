-- The text that shows a file: a line for its header, a line for each message, and a line that counts them. It depends on the messages and
-- not on how they are encoded.
use Rattle.std.specs.Prelude.{ℕ, Bool, true, false, List, [], ◌++◌, codes, decimal, Option, Some, None, option_map}
use Rattle.fit_grammar.specs.Format.Message.{MessageField, MessageDeveloperField}
use Rattle.fit_grammar.specs.Format.File.{FileValue}
use Rattle.fit_text.specs.Date.{dates_of, date_in}
use Rattle.fit_text.specs.Form.{FileForm, lines_of}
use Rattle.fit_text.specs.Notation.{Notation}
use Rattle.fit_text.specs.Values.{hex_text, shown_as}
use Rattle.fit_profile.specs.Facts.{FieldFacts}
use Rattle.fit_profile.specs.Known.{known_at, known_named}
use Rattle.fit_profile.specs.Row.{row_or_common}

-- an invalid value is `-`, and a field of size 0 has nothing; other bytes of a string than printable ones are escaped by `\x`
abbrev pub text_notation : Notation
text_notation =
    record {
      header = codes "header ";
      protocol = codes " protocol ";
      profile = codes " profile ";
      records = codes " data ";
      header_end = codes "\n";
      count = codes "messages ";
      count_end = codes "\n";
      between = [];
      middle = [];
      end = codes "\n";
      empty = true;
      invalid = codes "-";
      nothing = [];
      mark = [];
      opening = [];
      closing = [];
      escape = codes "\\x";
      utf8 = false;
    }

-- a name, or else a word and the number
abbrev pub named : Option (List ℕ) → List ℕ → ℕ → List ℕ
named None word number = word ++ decimal number
named (Some name) word number = name

abbrev pub message_name : ℕ → List ℕ
message_name number = named (known_named number) (codes "message_") number

abbrev pub field_name : List FieldFacts → ℕ → List ℕ
field_name names number =
    named (option_map (λ row. row.1) (row_or_common names number)) (codes "field_") number

-- a field, if the fields of these numbers are shown as dates
abbrev pub field_text : List FieldFacts → List ℕ → MessageField → List ℕ
field_text names dates field =
    codes " " ++ field_name names field.number ++ codes "="
    ++ shown_as text_notation (date_in dates field) field

-- a developer field, by the index of its developer data and its number; its bytes have two digits each
abbrev pub developer_text : MessageDeveloperField → List ℕ
developer_text field =
    codes " developer_" ++ decimal field.index ++ codes "_" ++ decimal field.number ++ codes "="
    ++ hex_text field.bytes

-- the line of a message begins with its number and its name
abbrev pub text_form : FileForm
text_form =
    record {
      notation = text_notation;
      head = λ number global. decimal number ++ codes " " ++ message_name global;
      field = λ utc global. field_text (known_at global) (dates_of utc global);
      developer = λ number. developer_text;
    }

-- with times as dates in UTC, or as numbers
unfoldable pub text_of : Bool → FileValue → List ℕ
text_of utc v = lines_of text_form utc v
