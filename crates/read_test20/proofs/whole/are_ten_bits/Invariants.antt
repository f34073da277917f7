-- `read_test20::whole::are_ten_bits` meets its contract: no symbol before i is larger than all of them together.
-- Assumes nothing.
use Prim.Native.Nat.{ℕ, ◌≤◌, ◌<◌}
use lib.ListN.{get_or}
use Rattle.read_test20.specs.Inside.See.{TenBits}
use Rattle.read_test20.proofs.whole.are_ten_bits.Given as goal

abbrev pub invariant-loop-s : goal.invariant-loop-s
invariant-loop-s l = ((k : ℕ) → k < l.s-index → get_or l.symbols k 0 ≤ l.all) × (TenBits l.symbols → l.all < 1024)
