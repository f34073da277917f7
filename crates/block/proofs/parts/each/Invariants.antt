-- `block::parts::each` meets its contract: the first i answers stand in their places.
-- Assumes nothing.
use Rattle.std.proofs.Common.{◌≡◌, ℕ, ◌<◌, length, get_or}
use Rattle.block.proofs.parts.each.Given as goal

abbrev pub invariant-loop-i : goal.invariant-loop-i
invariant-loop-i g l =
    (length l.answers ≡ g.row.N) × ((k : ℕ) → k < l.i → goal.F-post g l.f (get_or l.blocks k 0) (get_or l.answers k 0))
