-- `symbol::blocks::alternate_at` meets its contract: at each disparity, the column is the definition's.
-- Assumes nothing.
use Rattle.symbol.specs.Blocks.{alternate_at}
use Rattle.symbol.proofs.blocks.alternate_at.Goals as goal

pub returns-in-Negative : goal.returns-in-Negative
unfolding alternate_at
returns-in-Negative c = rw c.in-Negative.is

pub returns-in-Positive : goal.returns-in-Positive
unfolding alternate_at
returns-in-Positive c = rw c.in-Positive.is
