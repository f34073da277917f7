-- `block::bits::as_symbol` meets its contract: the six bits turned round stand below the four.
-- Assumes nothing.
use native.Mathlib.Omega.{arith}
use Rattle.block.specs.Inside.Bits.{as_symbol}
use Rattle.block.proofs.bits.as_symbol.Goals as goal

pub returns : goal.returns
unfolding as_symbol
returns c = omega (arith, c.turned.ensures.value, c.turned-2.ensures.value)
