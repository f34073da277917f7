-- The codes of the test picture are those that a picture may have; and some of them by their values.
-- Assumes nothing.
use mathlib.Core.Path.{◌≡◌, refl}
use Prim.Native.Nat.{ℕ, ◌-◌, ◌≤◌}
use native.Mathlib.Omega.{arith}
use Rattle.test_picture.specs.TestPicture.{test_sample}

-- 16 to 4079
module _ (line sample : ℕ) where
  pub code_low : 16 ≤ test_sample line sample
  unfolding test_sample
  code_low = omega arith

  pub code_high : test_sample line sample ≤ 4079
  unfolding test_sample
  code_high = omega arith

-- the middle of the rings, the end of the first and the beginning of the next, and two corners
pub values :
    (test_sample 720 1280 ≡ 4079)
    × (test_sample 720 2722 ≡ 18)
    × (test_sample 720 2723 ≡ 4077)
    × (test_sample 1 0 ≡ 3934)
    × (test_sample 2160 3839 ≡ 3495)
unfolding test_sample
values = (refl, refl, refl, refl, refl)

-- mirrored left to right, top to bottom, and both
pub mirrored :
    (test_sample 720 (3839 - 1280) ≡ 884)
    × (test_sample (2161 - 720) 1280 ≡ 3064)
    × (test_sample (2161 - 720) (3839 - 1280) ≡ 3933)
unfolding test_sample
mirrored = (refl, refl, refl)

-- the first sample of each image
pub exchanged : (test_sample 1 0 ≡ 3934) × (test_sample 1 1 ≡ 3939) × (test_sample 2 0 ≡ 3937) × (test_sample 2 1 ≡ 3942)
unfolding test_sample
exchanged = (refl, refl, refl, refl)
