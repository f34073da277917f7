-- Dividing a picture in the papers' own numerals (004, 5.3; document 01, "Dividing a picture" and "Sending"); `proofs/Paper` proves each.
-- Assumes nothing.
use Rattle.std.specs.Prelude.{ℕ, ◌+◌, ◌-◌, ◌*◌, ◌≤◌, ◌≡◌}
use Rattle.std.proofs.Math.Option.{none, some}
use Rattle.ground.specs.Answer.{given}
use Rattle.picture.specs.Choice.{row_on}
use Rattle.picture.specs.Division.{image_at, h, w}
use Rattle.picture.specs.Place.{placed_of, picture_line_on}

pub record PicturePaper : Type 1 where
  -- the rule of 004, 5.3, on lines 2a + 1 and 2a + 2 and samples 2b and 2b + 1
  pub odd_line_even_sample : (a b : ℕ) → image_at (2 * a + 1) (2 * b) ≡ 1
  pub odd_line_odd_sample : (a b : ℕ) → image_at (2 * a + 1) (2 * b + 1) ≡ 2
  pub even_line_even_sample : (a b : ℕ) → image_at (2 * a + 2) (2 * b) ≡ 3
  pub even_line_odd_sample : (a b : ℕ) → image_at (2 * a + 2) (2 * b + 1) ≡ 4
  -- document 01's list of h and w
  pub h_listed : (h 1 ≡ 0) × (h 2 ≡ 0) × (h 3 ≡ 1) × (h 4 ≡ 1)
  pub w_listed : (w 1 ≡ 0) × (w 2 ≡ 1) × (w 3 ≡ 0) × (w 4 ≡ 1)
  -- the two places that document 01 gives
  pub place_of_first :
      placed_of 1 1 ≡ given record { image = 2; line = record { 0 = 1 }; stream = record { 0 = 42 }; sample = 0 }
  pub place_of_last :
      placed_of 2160 3839 ≡ given record { image = 4; line = record { 0 = 1080 }; stream = record { 0 = 1121 }; sample = 1919 }
  -- the way back: stream line l + 41 carries picture line 2l - 1 + h of image u, and any other number nothing; it undoes the place
  pub line_on : (l u : ℕ) → 1 ≤ l → l ≤ 1080 → 1 ≤ u → u ≤ 4 → picture_line_on (l + 41) u ≡ some (2 * l - 1 + h u)
  pub no_line_on : (n u : ℕ) → (42 ≤ n → n ≤ 1121 → 1 ≤ u → u ≤ 4 → ⊥) → picture_line_on n u ≡ none
  -- stream lines 42 to 1121 carry the picture, and every other number the blanking (document 01, "Sending")
  pub picture_on : {A : Type 0} (n : ℕ) (picture blanking : A) → 42 ≤ n → n ≤ 1121 → row_on n picture blanking ≡ picture
  pub blanking_on : {A : Type 0} (n : ℕ) (picture blanking : A) → (42 ≤ n → n ≤ 1121 → ⊥) → row_on n picture blanking ≡ blanking
