-- Tests: of every entry of a table or every number in a range, evaluated by antt; and what a test says.
-- Assumes nothing.
use Rattle.std.specs.Prelude.{◌≡◌, Bool, true, ◌&&◌, List, [], ◌∷◌, ℕ, suc, replicate}

-- the test holds for each entry and its index, the first index being i
abbrev pub every_at : (ℕ → ℕ → Bool) → ℕ → List ℕ → Bool
every_at f i [] = true
every_at f i (x ∷ xs) = f i x && every_at f (suc i) xs

-- the test holds for each number below n
abbrev pub every_below : ℕ → (ℕ → Bool) → Bool
every_below n f = every_at (λ i _. f i) 0 (replicate n 0)

-- a test holds where a rule is met, and nowhere else
pub record Reflects (test : Bool) (rule : Type 0) : Type 0 where
  pub told : test ≡ true → rule
  pub holds : rule → test ≡ true
