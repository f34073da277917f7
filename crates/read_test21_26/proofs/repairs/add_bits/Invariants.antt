-- `read_test21_26::repairs::add_bits` meets its contract: the first b counts have their bits, and the others are as they were.
-- Assumes nothing.
use Rattle.std.proofs.Common.{◌≡◌, ℕ, ◌+◌, ◌<◌, ◌≤◌, length, get_or}
use Rattle.ground.specs.Bit.{bit_in}
use Rattle.read_test21_26.proofs.repairs.add_bits.Given as goal

abbrev pub invariant-loop-b : goal.invariant-loop-b
invariant-loop-b l =
    (length l.counts ≡ 12)
    × ((k : ℕ) → k < l.b → get_or l.counts k 0 ≡ get_or l.initial.counts k 0 + (bit_in k l.sav + bit_in k l.eav))
    × ((k : ℕ) → l.b ≤ k → get_or l.counts k 0 ≡ get_or l.initial.counts k 0)
