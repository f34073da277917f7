-- `symbol::blocks::six_bits` meets its contract: at each disparity, the column is the definition's.
-- Assumes nothing.
use Rattle.symbol.specs.Blocks.{six_bits}
use Rattle.symbol.proofs.blocks.six_bits.Goals as goal

pub returns-in-Negative : goal.returns-in-Negative
unfolding six_bits
returns-in-Negative c = rw c.in-Negative.is

pub returns-in-Positive : goal.returns-in-Positive
unfolding six_bits
returns-in-Positive c = rw c.in-Positive.is
