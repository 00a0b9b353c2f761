-- A form of a file: its lines, by the words of a notation and by how messages, fields and developer fields are written.
use Rattle.std.specs.Prelude.{ℕ, ◌/◌, ◌%◌, Bool, true, false, not, List, [], ◌++◌, length, codes, decimal, ◌==◌}
use Rattle.std.specs.List.{filter, flat_map, join_by, enumerate_from}
use Rattle.fit_base.specs.Value.{Values, Numbers, Raw}
use Rattle.fit_grammar.specs.declared.file.frame.Frame.{Frame}
use Rattle.fit_grammar.specs.Format.Records.{data_size}
use Rattle.fit_grammar.specs.Format.Message.{Message, MessageField, MessageDeveloperField, messages_of}
use Rattle.fit_grammar.specs.Format.File.{FileValue}
use Rattle.fit_text.specs.Notation.{Notation}

-- a form: its words; how the line of a message begins, by its place among the messages and its global number; a field of the messages
-- with a global number, where times are dates or numbers; and a developer field of the message in a place
pub record FileForm : Type 0 where
  pub notation : Notation
  pub head : ℕ → ℕ → List ℕ
  pub field : Bool → ℕ → MessageField → List ℕ
  pub developer : ℕ → MessageDeveloperField → List ℕ

-- ---- messages

-- whether a field has bytes
abbrev pub holds : Values → Bool
holds (Numbers []) = false
holds (Raw []) = false
holds values = true

abbrev pub has_bytes : MessageField → Bool
has_bytes field = holds field.values

abbrev pub has_developer_bytes : MessageDeveloperField → Bool
has_developer_bytes field = not (length field.bytes == 0)

-- the fields that are shown: all of them, or those that have bytes
abbrev pub shown : {X : Type 0} → Bool → (X → Bool) → List X → List X
shown true has fields = fields
shown false has fields = filter has fields

-- the line of a message
abbrev pub line_of : FileForm → Bool → ℕ → Message → List ℕ
line_of form utc number message =
    form.head number message.global
    ++ join_by (form.field utc message.global) form.notation.between
    (shown form.notation.empty has_bytes message.fields)
    ++ form.notation.middle
    ++ join_by (form.developer number) form.notation.between
    (shown form.notation.empty has_developer_bytes message.developer)
    ++ form.notation.end

-- the lines of the messages, numbered from 0
abbrev pub numbered : (ℕ → Message → List ℕ) → List Message → List ℕ
numbered line messages = flat_map (λ row. line row.0 row.1) (enumerate_from 0 messages)

-- ---- files

-- the first line: what the header states, and the number of bytes of records
abbrev pub header_as : Notation → Frame → ℕ → List ℕ
header_as notation frame size =
    notation.header ++ decimal frame.header_size ++ notation.protocol
    ++ decimal (frame.protocol / 16) ++ codes "." ++ decimal (frame.protocol % 16)
    ++ notation.profile ++ decimal frame.profile ++ notation.records ++ decimal size
    ++ notation.header_end

-- the last line
abbrev pub count_as : Notation → ℕ → List ℕ
count_as notation count = notation.count ++ decimal count ++ notation.count_end

-- a whole file: a line for its header, a line for each message, and a line that counts them
abbrev pub lines_of : FileForm → Bool → FileValue → List ℕ
lines_of form utc v =
    header_as form.notation v.frame (data_size v.items)
    ++ numbered (line_of form utc) (messages_of v.items)
    ++ count_as form.notation (length (messages_of v.items))
