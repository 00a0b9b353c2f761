-- Where the items of a file were in the bytes that it was read from. Most were where they are written. After each definition
-- that announced developer fields and had none, they were one byte later.
use Rattle.std.specs.Prelude.{◌≡◌, ℕ, ◌+◌, List, ◌++◌, nat_lt, count_by}
use Rattle.fit_grammar.specs.Format.Records.{data_size}
use Rattle.fit_grammar.specs.Format.Refusal.{Front, IsFront, front_bytes, front_end}

-- the place in the bytes of what is written at this place; the definitions written at the places `longer` are one byte shorter
-- now
abbrev pub place_read : List ℕ → ℕ → ℕ
place_read longer place = place + count_by (λ at. nat_lt at place) longer

-- the end of a front's items as they are written
abbrev pub written_end : Front → ℕ
written_end front = front.frame.header_size + data_size front.items

-- the places are right wherever a row of whole items ends in the bytes
abbrev pub ArePlaces : List ℕ → List ℕ → Type 0
ArePlaces bytes longer =
    (front : Front) (rest : List ℕ) → IsFront front → bytes ≡ front_bytes front ++ rest
    → place_read longer (written_end front) ≡ front_end front
