-- `read_test20::picture::take_picture` meets its contract: the words of the pieces so far have been taken.
-- Assumes nothing.
use mathlib.Core.Path.{◌≡◌}
use mathlib.Core.Bool.{true}
use Prim.Native.Nat.{◌*◌}
use Rattle.read_test20.specs.Inside.Picture.{RowsInv}
use Rattle.read_test20.specs.Inside.See.{passes_by}
use Rattle.read_test20.proofs.picture.take_picture.Given as goal

abbrev pub invariant-loop-piece : goal.invariant-loop-piece
invariant-loop-piece l = RowsInv l.pairs l.symbols l.initial.rows (120 * l.piece) l.p l.rows × (passes_by l.p.good ≡ true)
