-- `read_test21_26::repairs::wrong_in_all` meets its contract: the sum over the streams so far, which is small.
-- Assumes nothing.
use mathlib.Core.Path.{◌≡◌}
use Prim.Native.Nat.{◌*◌, ◌≤◌}
use Rattle.span.specs.Format.{streams}
use Rattle.word.specs.Received.{wrong_bits}
use Rattle.window.specs.Tests.{sum_of}
use Rattle.read_test21_26.specs.Inside.Repairs.{brought}
use Rattle.read_test21_26.proofs.repairs.wrong_in_all.Given as goal

abbrev pub invariant-loop-i : goal.invariant-loop-i
invariant-loop-i l =
    (l.s ≡ streams l.w.shape) × (l.sum ≡ sum_of l.i (brought wrong_bits l.w.shape l.w.symbols.now)) × (l.sum ≤ 24 * l.i)
