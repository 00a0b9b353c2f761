-- The first byte of an item, as it is read.
use Rattle.std.specs.Prelude.{ℕ}
use Rattle.fit_grammar.specs.declared.item.first_byte.Head.{Head as ReadHead}
use Rattle.fit_grammar.specs.declared.item.first_byte.Head.TheVariants as heads
use Rattle.fit_grammar.specs.Format.Item.{Head, DefinitionHead, DataHead}

-- a first byte, as it was read
abbrev pub head_view : ReadHead → Head
head_view (heads.Definition local announced) = DefinitionHead local announced
head_view (heads.Data local offset) = DataHead local offset

-- the local number that a first byte names
abbrev pub local_of : Head → ℕ
local_of (DefinitionHead local announced) = local
local_of (DataHead local offset) = local
