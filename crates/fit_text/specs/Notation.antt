-- The words of a form: what the text and the JSON of a file write where they differ.
use Rattle.std.specs.Prelude.{ℕ, Bool, List}
use Rattle.fit_text.specs.declared.notation.Notation.{Notation as Stated}

-- what stands in front of the numbers of the first line, and at its end; and the same of the last line
-- what stands between two fields of a message, after its fields, and at the end of its line, and whether fields of size 0 are shown
-- what stands for an invalid value, and for no values; around bytes and dates; around several numbers; in front of the digits of a byte
-- that does not stand in a string as it is; and whether those of UTF-8 stand as they are
pub record Notation : Type 0 where
  pub header : List ℕ
  pub protocol : List ℕ
  pub profile : List ℕ
  pub records : List ℕ
  pub header_end : List ℕ
  pub count : List ℕ
  pub count_end : List ℕ
  pub between : List ℕ
  pub middle : List ℕ
  pub end : List ℕ
  pub empty : Bool
  pub invalid : List ℕ
  pub nothing : List ℕ
  pub mark : List ℕ
  pub opening : List ℕ
  pub closing : List ℕ
  pub escape : List ℕ
  pub utf8 : Bool

-- the words that code states
abbrev pub words_of : Stated → Notation
words_of n =
    record {
      header = n.header.now;
      protocol = n.protocol.now;
      profile = n.profile.now;
      records = n.records.now;
      header_end = n.header_end.now;
      count = n.count.now;
      count_end = n.count_end.now;
      between = n.between.now;
      middle = n.middle.now;
      end = n.end.now;
      empty = n.empty;
      invalid = n.invalid.now;
      nothing = n.nothing.now;
      mark = n.mark.now;
      opening = n.opening.now;
      closing = n.closing.now;
      escape = n.escape.now;
      utf8 = n.utf8;
    }
