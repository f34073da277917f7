-- The check of samples against the bounds of a line.
-- Assumes nothing.
use Rattle.std.specs.Prelude.{ℕ, Bool, true, not, ◌&&◌, List, [], ◌∷◌, length, get_or}
use Rattle.std.proofs.Math.Option
use Rattle.ground.specs.Range.{within}
use Rattle.ground.specs.Search.{first_below}

-- no sample of a list is outside the bounds
unfoldable pub all_within : ℕ → ℕ → List ℕ → Bool
all_within low high [] = true
all_within low high (x ∷ xs) = within low high x && all_within low high xs

-- the lowest index of one that is; the length if there is none
unfoldable pub first_outside : ℕ → ℕ → List ℕ → ℕ
first_outside low high xs = Option.get_or (first_below (length xs) (λ i. not (within low high (get_or xs i 0)))) (length xs)
