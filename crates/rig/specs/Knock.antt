-- A knocked plug: no light for a while, so that symbols are 0, which is not a symbol of the code.
-- Assumes nothing.
use Rattle.std.specs.Prelude.{ℕ, ◌+◌, ◌-◌, ◌*◌, Bool, ◌&&◌, leb, ltb}
use Rattle.ground.specs.Search.{first_from, is_some}
use Rattle.rig.specs.declared.knock.Knock.{Knock}

-- symbol q of the frame is struck: it is one of the knock's symbols, from its place on
abbrev pub struck : Knock → ℕ → Bool
struck k q = leb k.place q && ltb q (k.place + k.long)

-- a stream line is lost if any of the 19,008 symbols of its span is struck
unfoldable pub lost : Knock → ℕ → Bool
lost k n = is_some (first_from (19008 * (n - 1)) 19008 (struck k))
