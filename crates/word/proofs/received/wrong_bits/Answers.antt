-- `crate::received::wrong_bits` meets its contract.
-- Assumes nothing.
use Prim.Native.Nat.{◌%◌}
use Rattle.word.proofs.Near.{bits_told, few_bits}
use Rattle.word.proofs.received.wrong_bits.Goals as goal

pub returns : goal.returns
returns c = let w = c.args.w % 4096 in record { count = bits_told w c.wrong_mask.ensures; few = few_bits w c.wrong_mask.ensures }
