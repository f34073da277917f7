-- Windows one after the other, and what is kept where none was found, in plain numbers; `proofs/Paper` proves each.
-- Assumes nothing.
use Rattle.std.specs.Prelude.{ℕ, ◌+◌, ◌≤◌, ◌≡◌, List, [], ◌∷◌, ◌++◌}
use Rattle.delivery.specs.Delivery.{moved_by, concatenated, placed_from, Each}
use Rattle.delivery.specs.Kept.{kept_from}

pub record DeliveryPaper (S A : Type 0) : Type 1 where
  -- P holds for each of none, and for each of two if it holds for both
  pub each_of_none : (P : S → Type 0) → Each P []
  pub each_of_two : (P : S → Type 0) (x y : S) → P x → P y → Each P (x ∷ y ∷ [])
  -- the symbols of two windows are those of the first and then those of the second
  pub two_after_each_other : (symbols : S → List ℕ) (x y : S) → concatenated symbols (x ∷ y ∷ []) ≡ symbols x ++ symbols y
  -- their readings stand n apart, and k further on behind k more symbols
  pub two_places :
      (n : ℕ) (reading : S → A) (p : ℕ) (x y : S)
      → placed_from n reading p (x ∷ y ∷ [])
      ≡ record { place = p; reading = reading x } ∷ record { place = p + n; reading = reading y } ∷ []
  pub two_moved :
      (k p q : ℕ) (a b : A)
      → moved_by k (record { place = p; reading = a } ∷ record { place = q; reading = b } ∷ [])
      ≡ record { place = k + p; reading = a } ∷ record { place = k + q; reading = b } ∷ []
  -- what is kept of `long` symbols in which no window of n was found from p on: all from p on, or the last n - 1 if they are fewer
  pub kept_all : (n long p : ℕ) → long + 1 ≤ p + n → kept_from n long p ≡ p
  pub kept_last : (n long p : ℕ) → p + n ≤ long + 1 → kept_from n long p + n ≡ long + 1
