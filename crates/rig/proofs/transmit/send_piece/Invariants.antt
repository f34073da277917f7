-- `rig::transmit::send_piece` meets its contract: the lines that are left, put after what is there, give the whole.
-- Assumes nothing.
use mathlib.Core.Path.{◌≡◌}
use Prim.Native.Nat.{◌+◌, ◌-◌, ◌*◌, ◌≤◌, ◌<◌}
use lib.ListN.{length}
use lib.Seq.{sets}
use Rattle.rig.specs.Sending.{after_from}
use Rattle.rig.specs.Inside.Sending.{sent_from}
use Rattle.rig.proofs.transmit.send_piece.Given as goal

abbrev pub invariant-loop-k : goal.invariant-loop-k
invariant-loop-k l =
    (l.k ≤ 5)
    × (length l.words ≡ 7680)
    × (length l.symbols ≡ 95040)
    × (l.k < 5 → l.l.0 ≡ l.initial.l.0 + l.k)
    × (after_from l.d (l.initial.l.0 + l.k) (5 - l.k) ≡ after_from l.initial.d l.initial.l.0 5)
    × (sets l.symbols (19008 * l.k) (sent_from l.d (l.initial.l.0 + l.k) (5 - l.k)) ≡ sets l.initial.symbols 0 (sent_from l.initial.d l.initial.l.0 5))
