-- `read_test21_26::repairs::each_bit` meets its contract: the counts of the streams so far, which are small.
-- Assumes nothing.
use mathlib.Core.Path.{◌≡◌}
use Rattle.span.specs.Format.{streams}
use Rattle.read_test21_26.proofs.Repairing.{counts_of}
use Rattle.read_test21_26.proofs.repairs.each_bit.Given as goal

abbrev pub invariant-loop-i : goal.invariant-loop-i
invariant-loop-i l = (l.s ≡ streams l.w.shape) × (l.counts ≡ counts_of l.w.shape l.w.symbols.now l.i)
