-- A list built piece by piece: what a loop has written after n iterations.
-- Assumes nothing.
use Rattle.std.specs.Prelude.{List, [], ◌∷◌, ◌++◌, ℕ, zero, suc}

module _ {A : Type 0} where
  -- the pieces f 0, f 1, and so on, n of them, one after the other
  unfoldable pub upto : ℕ → (ℕ → List A) → List A
  upto zero f = []
  upto (suc n) f = upto n f ++ f n

-- the n entries f 0, f 1, and so on
unfoldable pub table : {A : Type 0} → ℕ → (ℕ → A) → List A
table n f = upto n (λ k. f k ∷ [])
