-- The blocks of one character: the part of a byte's four bits.
-- Assumes nothing.
use Rattle.std.specs.Prelude.{ℕ, ◌&&◌, cond, eqb, get_or}
use Rattle.symbol.specs.declared.disparity.Disparity.{Disparity}
use Rattle.symbol.specs.Blocks.{four_bits, alternate, alternate_at}
use Rattle.symbol.specs.Code.{one_of}

-- the four bits of a byte x.y, where the disparity before them is d
unfoldable pub four_of_byte : Disparity → ℕ → ℕ → ℕ
unfolding four_bits alternate alternate_at
four_of_byte d x y = cond (eqb y 7 && one_of x (alternate_at d)) (alternate d) (get_or (four_bits d) y 0)
