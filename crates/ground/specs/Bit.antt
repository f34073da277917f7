-- One bit of a number, counted from the lowest, which is bit 0.
-- Assumes nothing.
use Rattle.std.specs.Prelude.{Bool, cond, ℕ, zero, suc, ◌+◌, ◌-◌, ◌*◌, ◌/◌, ◌%◌, ◌^◌}

-- bit k of a number: 0 or 1
unfoldable pub bit_in : ℕ → ℕ → ℕ
bit_in k n = n / 2 ^ k % 2

-- the number with bit k inverted
unfoldable pub inverted : ℕ → ℕ → ℕ
inverted zero n = n / 2 * 2 + (1 - n % 2)
inverted (suc k) n = inverted k (n / 2) * 2 + n % 2

-- a test as a number: 1 if it holds, else 0
abbrev pub bit : Bool → ℕ
bit b = cond b 1 0
