-- A step of division and the way back undo each other, for images of any size: by arithmetic, with no case for a sample.
-- Assumes nothing.
use mathlib.Core.Path.{◌≡◌, refl, ap, ◌∙◌}
use Prim.Native.Nat.{ℕ, ◌+◌, ◌-◌, ◌*◌, ◌/◌, ◌%◌, ◌≤◌}
use native.Mathlib.Omega.{arith}
use Rattle.line.specs.declared.picture.PictureLine.{PictureLine}
use Rattle.picture.specs.declared.division.Quarter.{Quarter}
use Rattle.picture.specs.Division.{image_at, image_line, image_sample, halved, h, w, line_from, sample_from}

abbrev quarter : ℕ → ℕ → ℕ → Quarter
quarter image line sample = record { image = image; line = record { 0 = line }; sample = sample }

-- document 01's list of h and w
pub h_listed : (h 1 ≡ 0) × (h 2 ≡ 0) × (h 3 ≡ 1) × (h 4 ≡ 1)
unfolding h
h_listed = (refl, refl, refl, refl)

pub w_listed : (w 1 ≡ 0) × (w 2 ≡ 1) × (w 3 ≡ 0) × (w 4 ≡ 1)
unfolding w
w_listed = (refl, refl, refl, refl)

-- 004, 5.3's own sentence, on lines 2a + 1 and 2a + 2 and samples 2b and 2b + 1
module _ (a b : ℕ) where
  pub odd_line_even_sample : image_at (2 * a + 1) (2 * b) ≡ 1
  unfolding image_at
  odd_line_even_sample = omega arith

  pub odd_line_odd_sample : image_at (2 * a + 1) (2 * b + 1) ≡ 2
  unfolding image_at
  odd_line_odd_sample = omega arith

  pub even_line_even_sample : image_at (2 * a + 2) (2 * b) ≡ 3
  unfolding image_at
  even_line_even_sample = omega arith

  pub even_line_odd_sample : image_at (2 * a + 2) (2 * b + 1) ≡ 4
  unfolding image_at
  even_line_odd_sample = omega arith

-- a step is told by its three numbers
pub quarter_is :
    (n k : ℕ) {image sample : ℕ} {line : PictureLine}
    → image ≡ image_at n k
    → line.0 ≡ image_line n
    → sample ≡ image_sample k
    → ◌≡◌ {A = Quarter} record { image = image; line = line; sample = sample } (halved n k)
quarter_is n k {image} {sample} {line} p q r =
    ap (λ (i : ℕ). quarter i line.0 sample) p
    ∙ ap (λ (l : ℕ). quarter (image_at n k) l sample) q
    ∙ ap (λ (s : ℕ). quarter (image_at n k) (image_line n) s) r

-- there are four images
pub one_of_four : (line sample : ℕ) → (1 ≤ image_at line sample) × (image_at line sample ≤ 4)
unfolding image_at
one_of_four line sample = (omega arith, omega arith)

-- from a picture to its images and back
module _ (line sample : ℕ) where
  pub line_back_lem : 1 ≤ line → line_from (image_at line sample) (image_line line) ≡ line
  unfolding image_at image_line line_from h
  line_back_lem p = omega arith

  pub sample_back : sample_from (image_at line sample) (image_sample sample) ≡ sample
  unfolding image_at image_sample sample_from w
  sample_back = omega arith

-- from an image to its picture and back
module _ (u l j : ℕ) (p : 1 ≤ u) (q : u ≤ 4) (r : 1 ≤ l) where
  h_again : (line_from u l + 1) % 2 ≡ (u - 1) / 2
  unfolding line_from h
  h_again = omega arith

  w_again : sample_from u j % 2 ≡ (u - 1) % 2
  unfolding sample_from w
  w_again = omega arith

  image_again : image_at (line_from u l) (sample_from u j) ≡ u
  unfolding image_at
  image_again = omega (arith, h_again, w_again)

  line_again : image_line (line_from u l) ≡ l
  unfolding image_line line_from h
  line_again = omega arith

  sample_again : image_sample (sample_from u j) ≡ j
  unfolding image_sample sample_from w
  sample_again = omega arith

  pub step_again : halved (line_from u l) (sample_from u j) ≡ record { image = u; line = record { 0 = l }; sample = j }
  step_again = rw (image_again, line_again, sample_again)
