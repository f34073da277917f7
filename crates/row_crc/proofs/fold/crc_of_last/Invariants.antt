-- `row_crc::fold::crc_of_last` meets its contract.
-- Assumes nothing.
use mathlib.Core.Path.{◌≡◌}
use Rattle.ground.specs.Written.{table}
use Rattle.crcc.specs.Crcc.{crc}
use Rattle.row_crc.specs.Inside.Fold.{left}
use Rattle.row_crc.proofs.fold.crc_of_last.Given as goal

abbrev pub invariant-loop-j : goal.invariant-loop-j
invariant-loop-j l =
    (l.c ≡ crc 0 (table l.j (left l.a l.ma 1781))) × (l.d ≡ crc 0 (table l.j (left l.b l.mb 1781)))
