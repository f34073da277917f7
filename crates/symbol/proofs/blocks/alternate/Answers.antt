-- `symbol::blocks::alternate` meets its contract: at each disparity, the column is the definition's.
-- Assumes nothing.
use Rattle.symbol.specs.Blocks.{alternate}
use Rattle.symbol.proofs.blocks.alternate.Goals as goal

pub returns-in-Negative : goal.returns-in-Negative
unfolding alternate
returns-in-Negative c = rw c.in-Negative.is

pub returns-in-Positive : goal.returns-in-Positive
unfolding alternate
returns-in-Positive c = rw c.in-Positive.is
