-- `symbol::blocks::four_bits` meets its contract: at each disparity, the column is the definition's.
-- Assumes nothing.
use Rattle.symbol.specs.Blocks.{four_bits}
use Rattle.symbol.proofs.blocks.four_bits.Goals as goal

pub returns-in-Negative : goal.returns-in-Negative
unfolding four_bits
returns-in-Negative c = rw c.in-Negative.is

pub returns-in-Positive : goal.returns-in-Positive
unfolding four_bits
returns-in-Positive c = rw c.in-Positive.is
