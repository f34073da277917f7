-- `dividing::join::merge` meets its contract: after j iterations the row begins with the samples of j pairs.
-- Assumes nothing.
use mathlib.Core.Path.{◌≡◌}
use Prim.Native.Nat.{◌*◌, ◌≤◌}
use lib.ListN.{length}
use lib.Seq.{sets}
use Rattle.dividing.specs.Row.{joined}
use Rattle.dividing.proofs.join.merge.Given as goal

abbrev pub invariant-loop-j : goal.invariant-loop-j
invariant-loop-j l = (l.j ≤ l.n) × (length l.row ≡ 2 * l.n) × (l.row ≡ sets l.initial.row 0 (joined l.j l.first l.second))
