-- `test_picture::samples::put_picture` meets its contract: after i iterations the images of i rows are there.
-- Assumes nothing.
use mathlib.Core.Path.{◌≡◌}
use mathlib.Core.Bool.{true}
use Prim.Native.Nat.{◌*◌, ◌-◌, ◌≤◌}
use lib.ListN.{length}
use lib.Seq.{sets}
use Rattle.ground.specs.Written.{upto}
use Rattle.line.specs.Stream.{is_active}
use Rattle.test_picture.proofs.Images.{carried}
use Rattle.test_picture.proofs.samples.put_picture.Given as goal

abbrev pub invariant-loop-i : goal.invariant-loop-i
invariant-loop-i l =
    (l.i ≤ l.rows)
    × (length l.samples ≡ length l.initial.samples)
    × (l.samples ≡ sets l.initial.samples 0 (upto (2 * l.i) (carried l.step (l.l.0 - 41))))
    × (1 ≤ l.i → is_active l.l.0 ≡ true)
