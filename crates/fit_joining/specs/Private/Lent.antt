-- The makers of a joined file, lent from its parts.
use Rattle.std.specs.Prelude.{◌≡◌, List, Option, length, map, option_map}
use Rattle.fit_joining.specs.declared.maker.LentMaker.{LentMaker}
use Rattle.fit_joining.specs.declared.makers.Makers.TheInside.{Inside}
use Rattle.fit_joining.specs.Makers.{Maker}

abbrev pub maker_lent : LentMaker → Maker
maker_lent m = record { application = m.application.now; developer = m.developer.now }

abbrev pub makers_lent : Inside → List (Option Maker)
makers_lent s = map (option_map maker_lent) s.slots

-- there are 256 indices
abbrev pub AreAll : Inside → Type 0
AreAll s = length s.slots ≡ 256
