-- `list_spans::list::put_spans` meets its contract: the lines that are left, put into what is there, give the whole.
-- Assumes nothing.
use mathlib.Core.Path.{◌≡◌}
use Prim.Native.Nat.{◌-◌, ◌≤◌}
use lib.ListN.{length}
use Rattle.recording.specs.Recording.{delivery_from}
use Rattle.list_spans.specs.Listing.{lines_of}
use Rattle.list_spans.proofs.Left.{Left}
use Rattle.list_spans.proofs.list.put_spans.Given as goal

abbrev pub invariant-loop-s : goal.invariant-loop-s
invariant-loop-s l =
    (l.at ≤ l.place)
    × (l.place ≤ length l.symbols)
    × (length l.rows ≡ length l.initial.rows)
    × (length l.out ≡ length l.initial.out)
    × Left l.initial.out l.out l.at (lines_of (delivery_from l.f l.symbols l.place)) (lines_of (delivery_from l.f l.symbols 0))

abbrev pub decreases-loop-s : goal.decreases-loop-s
decreases-loop-s l = length l.symbols - l.place
