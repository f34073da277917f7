-- `row_crc::fold::fold` meets its contract.
-- Assumes nothing.
use mathlib.Core.Path.{◌≡◌}
use lib.ListN.{length}
use Rattle.row_crc.specs.Inside.Fold.{FoldInv}
use Rattle.row_crc.proofs.fold.fold.Given as goal

abbrev pub invariant-loop-j : goal.invariant-loop-j
invariant-loop-j l = (length l.moved ≡ 1984) × FoldInv l.row l.moved l.j
