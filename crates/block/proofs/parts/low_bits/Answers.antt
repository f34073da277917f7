-- `block::parts::low_bits` meets its contract: each entry is what is answered of the block in its place.
-- Assumes nothing.
use Rattle.std.proofs.Common.{rules}
use Rattle.ground.proofs.Writing.{is_table}
use Rattle.block.specs.Inside.Parts.{low_bits}
use Rattle.block.proofs.parts.low_bits.Goals as goal

pub returns : goal.returns
unfolding low_bits
returns c = is_table 32 _ 0 _ c.each.ensures.long (λ i h. let answer = c.each.ensures.at i h in search rules)
