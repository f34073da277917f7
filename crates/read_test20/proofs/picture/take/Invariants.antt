-- `read_test20::picture::take` meets its contract: four words more have been taken for each turn.
-- Assumes nothing.
use mathlib.Core.List.{List}
use Prim.Native.Nat.{ℕ, ◌+◌, ◌*◌}
use Rattle.read_test20.specs.Inside.Picture.{RowsInv}
use Rattle.read_test20.proofs.picture.take.Given as goal

abbrev pub invariant-loop-turn : goal.invariant-loop-turn
invariant-loop-turn g l =
    let pairs = g.C.Column.pairs in
    (old : List ℕ) → RowsInv pairs l.symbols old l.from l.initial.p l.initial.rows → RowsInv pairs l.symbols old (l.from + 4 * l.turn) l.p l.rows
