-- The values of some fields, as the bytes that the messages of one number have.
use Rattle.std.specs.Prelude.{◌≡◌, ℕ, ◌*◌, ◌<◌, List, length, take, drop, map, flat_map, slice_index}
use Rattle.fit_base.specs.declared.order.Arch.{Arch}
use Rattle.fit_base.specs.declared.order.Arch.TheVariants.{Little, Big}
use Rattle.fit_grammar.specs.declared.definition.Definition.{Definition}
use Rattle.fit_columns.specs.declared.place.Place.{Place}
use Rattle.fit_columns.specs.declared.values.ValueHead.{ValueHead}
use Rattle.fit_columns.specs.Fields.{Written, fields_here, written_from}
use Rattle.fit_columns.specs.Places.{place_bytes}
use Rattle.fit_columns.specs.Rows.{Row}

-- 0 is low byte first, and 1 high byte first
abbrev pub order_of : Arch → ℕ
order_of Little = 0
order_of Big = 1

-- the field of a code in the content of a definition's message
abbrev pub written_at : Definition → List ℕ → ℕ → Written
written_at d content code = written_from 0 code (fields_here d) content

-- where the message is, where in it the value is, and how many bytes that has, of which type and in which order
abbrev pub head_at : ℕ → Definition → List ℕ → ℕ → ValueHead
head_at place d content code =
    record {
      message = place;
      at = (written_at d content code).at;
      size = length (written_at d content code).bytes;
      base = (written_at d content code).base;
      order = order_of d.arch;
    }

-- the bytes of its values, one after another
abbrev pub bytes_at : List ℕ → Definition → List ℕ → List ℕ
bytes_at codes d content = flat_map (λ code. (written_at d content code).bytes) codes

abbrev pub head_by : Row → ℕ → ValueHead
head_by row code = head_at row.place row.lent.definition row.lent.content code

-- the values of several messages
abbrev pub values_of : List ℕ → List Row → List ℕ
values_of codes rows =
    flat_map (λ row. bytes_at codes row.lent.definition row.lent.content) rows

-- column k, from place k * room on, has the heads of the values of code k
abbrev pub AreHeads : List ℕ → ℕ → List Row → List ValueHead → Type 0
AreHeads codes room rows heads =
    (k : ℕ) → k < length codes
    → take (length rows) (drop (k * room) heads)
    ≡ map (λ row. head_by row (slice_index codes k)) rows

-- ---- by the places of a plan

abbrev pub place_head : Arch → ℕ → Place → ValueHead
place_head arch message place =
    record {
      message = message;
      at = place.at;
      size = place.size;
      base = place.base;
      order = order_of arch;
    }

abbrev pub places_bytes : List Place → List ℕ → List ℕ
places_bytes places content = flat_map (λ place. place_bytes place content) places
