-- `test_picture::row::put_codes` meets its contract: after x iterations the first x samples are there.
-- Assumes nothing.
use mathlib.Core.Path.{◌≡◌}
use Prim.Native.Nat.{◌≤◌}
use lib.ListN.{length}
use lib.Seq.{sets}
use Rattle.ground.specs.Written.{table}
use Rattle.test_picture.specs.TestPicture.{sample_by}
use Rattle.test_picture.proofs.row.put_codes.Given as goal

abbrev pub invariant-loop-x : goal.invariant-loop-x
invariant-loop-x l =
    (l.x ≤ 3840) × (length l.row ≡ 3840) × (l.row ≡ sets l.initial.row 0 (table l.x (sample_by l.step l.line.0)))
