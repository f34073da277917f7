-- Which basic image each stream carries, as document 01 lists them.
-- Assumes nothing.
use mathlib.Core.Path.{◌≡◌, refl}
use mathlib.Core.List.{List, [], ◌∷◌}
use Prim.Native.Nat.{ℕ}
use Rattle.span.specs.declared.format.Format.{Format}
use Rattle.span.specs.Image.{image_of}

abbrev two : Format → ℕ → List ℕ
two f pair = image_of f pair 0 ∷ image_of f pair 1 ∷ []

abbrev four : Format → ℕ → List ℕ
four f pair = image_of f pair 0 ∷ image_of f pair 1 ∷ image_of f pair 2 ∷ image_of f pair 3 ∷ []

module _ (f : Format) where
  -- at 120 and 100 Hz images 1 and 2, or 3 and 4
  pub images_of_120 : f.number ≡ 1 → (two f 1 ≡ 1 ∷ 2 ∷ []) × (two f 2 ≡ 3 ∷ 4 ∷ [])
  unfolding image_of
  images_of_120 e = rw e (refl, refl)

  pub images_of_100 : f.number ≡ 2 → (two f 1 ≡ 1 ∷ 2 ∷ []) × (two f 2 ≡ 3 ∷ 4 ∷ [])
  unfolding image_of
  images_of_100 e = rw e (refl, refl)

  -- at 50 Hz images 1 to 4 in that order
  pub images_of_50 : f.number ≡ 3 → (pair : ℕ) → four f pair ≡ 1 ∷ 2 ∷ 3 ∷ 4 ∷ []
  unfolding image_of
  images_of_50 e pair = rw e
