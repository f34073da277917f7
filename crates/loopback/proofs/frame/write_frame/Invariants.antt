-- `loopback::frame::write_frame` meets its contract: the flags of the pieces so far stand where they belong, and the disparity is handed on.
-- Assumes nothing.
use mathlib.Core.Path.{◌≡◌}
use Prim.Native.Nat.{◌*◌, ◌≤◌}
use lib.ListN.{length}
use lib.Seq.{sets}
use Rattle.ground.specs.Written.{upto}
use Rattle.rig.specs.Piece.{heard_in}
use Rattle.rig.specs.Sending.{after_from}
use Rattle.loopback.proofs.frame.write_frame.Given as goal

abbrev pub invariant-loop-piece : goal.invariant-loop-piece
invariant-loop-piece g l =
    (l.piece ≤ 225)
    × (length l.heard ≡ 1125)
    × (length l.picture ≡ 38400)
    × (length l.bytes ≡ length l.initial.bytes)
    × (l.heard ≡ sets l.initial.heard 0 (upto l.piece (heard_in l.k)))
    × (l.d ≡ after_from l.initial.d 1 (5 * l.piece))
