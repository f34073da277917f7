-- `symbol::blocks::four_bits_special` meets its contract: at each disparity, the column is the definition's.
-- Assumes nothing.
use Rattle.symbol.specs.Blocks.{four_bits_special}
use Rattle.symbol.proofs.blocks.four_bits_special.Goals as goal

pub returns-in-Negative : goal.returns-in-Negative
unfolding four_bits_special
returns-in-Negative c = rw c.in-Negative.is

pub returns-in-Positive : goal.returns-in-Positive
unfolding four_bits_special
returns-in-Positive c = rw c.in-Positive.is
