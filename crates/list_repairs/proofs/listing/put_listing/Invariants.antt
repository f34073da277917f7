-- `list_repairs::listing::put_listing` meets its contract: after i iterations the first i lines are there.
-- Assumes nothing.
use mathlib.Core.Path.{◌≡◌}
use Prim.Native.Nat.{◌≤◌}
use lib.ListN.{length}
use Rattle.ground.proofs.Putting.{Put}
use Rattle.list_repairs.specs.Text.{word_count, repair_lines}
use Rattle.list_repairs.proofs.listing.put_listing.Given as goal

abbrev pub invariant-loop-i : goal.invariant-loop-i
invariant-loop-i l =
    (l.count ≡ word_count (length l.input))
    × (688128 ≤ length l.initial.out)
    × (l.i ≤ l.count)
    × Put l.initial.out l.out 0 l.at (repair_lines l.input l.i)
