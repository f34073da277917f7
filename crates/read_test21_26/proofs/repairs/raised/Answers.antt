-- `read_test21_26::repairs::raised` meets its contract: bit b of a mask, told from its shift.
-- Assumes nothing.
use mathlib.Core.Path.{refl}
use Rattle.ground.specs.Bit.{bit_in}
use Rattle.read_test21_26.proofs.repairs.raised.Goals as goal

pub returns : goal.returns
unfolding bit_in
returns c = refl
