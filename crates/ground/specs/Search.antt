-- The lowest number at which a test holds.
-- Assumes nothing.
use Rattle.std.specs.Prelude.{Bool, true, false, cond, ℕ, zero, suc}
use Rattle.std.proofs.Math.Option.{Option, none, some}

-- the lowest of the n numbers from i on at which the test holds, if there is one
unfoldable pub first_from : ℕ → ℕ → (ℕ → Bool) → Option ℕ
first_from i zero p = none
first_from i (suc n) p = cond (p i) (some i) (first_from (suc i) n p)

-- the lowest number below n at which the test holds, if there is one
unfoldable pub first_below : ℕ → (ℕ → Bool) → Option ℕ
first_below n p = first_from 0 n p

-- whether there is one
abbrev pub is_some : {A : Type 0} → Option A → Bool
is_some none = false
is_some (some a) = true
