-- `reception::receive::receive_all` meets its contract: what is left of the delivery, put into what is there, gives the whole.
-- Assumes nothing.
use mathlib.Core.Path.{◌≡◌}
use Prim.Native.Nat.{◌-◌, ◌≤◌}
use lib.ListN.{length}
use Rattle.recording.specs.Recording.{delivery_from}
use Rattle.reception.specs.Receiving.{heard_from, shown_from}
use Rattle.reception.proofs.receive.receive_all.Given as goal

abbrev pub invariant-loop-s : goal.invariant-loop-s
invariant-loop-s l =
    (l.place ≤ length l.symbols)
    × (length l.rows ≡ 7680)
    × (length l.heard ≡ 5)
    × (length l.picture ≡ 38400)
    × (heard_from l.first.0 l.heard (delivery_from l.f l.symbols l.place) ≡ heard_from l.first.0 l.initial.heard (delivery_from l.f l.symbols 0))
    × (shown_from l.first.0 l.picture (delivery_from l.f l.symbols l.place) ≡ shown_from l.first.0 l.initial.picture (delivery_from l.f l.symbols 0))

abbrev pub decreases-loop-s : goal.decreases-loop-s
decreases-loop-s l = length l.symbols - l.place
