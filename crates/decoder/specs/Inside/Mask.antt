-- The entries of the decoding table for a loop, which keeps a disparity as the entry bit that says whether a symbol is legal at it.
-- Assumes nothing.
use Rattle.std.specs.Prelude.{ℕ, ◌/◌, Bool, not, cond, eqb}
use Rattle.std.specs.Int.Bits.{bit_and, bit_xor}
use Rattle.symbol.specs.declared.disparity.Disparity.{Disparity}
use Rattle.symbol.specs.declared.disparity.Disparity.TheVariants.{Negative, Positive}

abbrev pub mask_of : Disparity → ℕ
mask_of Negative = 512
mask_of Positive = 1024

abbrev pub of_mask : ℕ → Disparity
of_mask m = cond (eqb m 512) Negative Positive

unfoldable pub legal_by : ℕ → ℕ → Bool
legal_by m e = not (eqb (bit_and e m) 0)

unfoldable pub after_by : ℕ → ℕ → ℕ
after_by m e = bit_xor m (bit_and (e / 4) 1536)
