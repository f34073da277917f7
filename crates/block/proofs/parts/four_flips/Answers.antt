-- `block::parts::four_flips` meets its contract: each entry is what is answered of the block in its place.
-- Assumes nothing.
use Rattle.std.proofs.Common.{rules}
use Rattle.ground.proofs.Writing.{is_table}
use Rattle.block.specs.Inside.Parts.{four_flips}
use Rattle.block.proofs.parts.four_flips.Goals as goal

pub returns : goal.returns
unfolding four_flips
returns c = is_table 8 _ 0 _ c.each.ensures.long (λ i h. let answer = c.each.ensures.at i h in search rules)
