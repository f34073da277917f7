-- `loopback::file::put_piece` meets its contract: the bytes of the first i lines are put.
-- Assumes nothing.
use mathlib.Core.Path.{◌≡◌}
use Prim.Native.Nat.{◌*◌, ◌≤◌}
use lib.ListN.{length}
use Rattle.ground.specs.Written.{upto}
use Rattle.ground.proofs.Putting.{Put}
use Rattle.loopback.proofs.Bytes.{line_bytes}
use Rattle.loopback.proofs.file.put_piece.Given as goal

abbrev pub invariant-loop-i : goal.invariant-loop-i
invariant-loop-i l =
    (l.i ≤ 5)
    × (length l.out ≡ length l.initial.out)
    × (l.at ≤ 15360 * l.i)
    × Put l.initial.out l.out 0 l.at (upto l.i (line_bytes l.piece l.picture))
