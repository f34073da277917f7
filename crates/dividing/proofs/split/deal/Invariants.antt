-- `dividing::split::deal` meets its contract: after j iterations each image's row begins with its j samples.
-- Assumes nothing.
use mathlib.Core.Path.{◌≡◌}
use Prim.Native.Nat.{◌≤◌}
use lib.ListN.{length}
use lib.Seq.{sets}
use Rattle.dividing.specs.Row.{divided}
use Rattle.dividing.proofs.split.deal.Given as goal

abbrev pub invariant-loop-j : goal.invariant-loop-j
invariant-loop-j l =
    (l.j ≤ l.n)
    × (length l.first ≡ l.n)
    × (length l.second ≡ l.n)
    × (l.first ≡ sets l.initial.first 0 (divided 0 l.j l.row))
    × (l.second ≡ sets l.initial.second 0 (divided 1 l.j l.row))
