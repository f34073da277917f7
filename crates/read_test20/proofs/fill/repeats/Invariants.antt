-- `read_test20::fill::repeats` meets its contract: nothing other is met just where each symbol so far is met again three after it.
-- Assumes nothing.
use mathlib.Core.Path.{◌≡◌}
use Prim.Native.Nat.{ℕ, ◌+◌, ◌≤◌, ◌<◌}
use lib.ListN.{length}
use Rattle.window.specs.Scan.{symbol_at}
use Rattle.read_test20.specs.Inside.Fill.{Repeats}
use Rattle.read_test20.proofs.fill.repeats.Given as goal

abbrev pub invariant-loop-s : goal.invariant-loop-s
invariant-loop-s l = (l.other ≡ 0 → (k : ℕ) → l.from ≤ k → k < l.from + length l.yielded → symbol_at l.symbols (k + 3) ≡ symbol_at l.symbols k) × (Repeats l.symbols l.from l.to → l.other ≡ 0)
