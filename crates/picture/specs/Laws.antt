-- Laws of dividing a picture into places, for a reader of the papers; `proofs/Laws` proves each.
-- Assumes nothing.
use Rattle.std.specs.Prelude.{ℕ, ◌≤◌, ◌≡◌}
use Rattle.std.proofs.Math.Option.{some}
use Rattle.ground.specs.Answer.{refused, given}
use Rattle.ground.specs.Inside.Answer.{Injective}
use Rattle.line.specs.Picture.{stream_line_of}
use Rattle.picture.specs.declared.place.Place.{Place}
use Rattle.picture.specs.Division.{image_at, image_line, image_sample, halved, line_from, sample_from}
use Rattle.picture.specs.Place.{place_of, paper_placed, placed_of, picture_line_on}

pub record PictureLaws : Type 1 where
  -- going from a picture to its images and back gives the same line and sample
  pub line_back : (line sample : ℕ) → 1 ≤ line → line_from (image_at line sample) (image_line line) ≡ line
  pub sample_back : (line sample : ℕ) → sample_from (image_at line sample) (image_sample sample) ≡ sample
  -- going from an image to its picture and back gives the same image, line and sample
  pub image_back :
      (u l j : ℕ)
      → 1 ≤ u
      → u ≤ 4
      → 1 ≤ l
      → halved (line_from u l) (sample_from u j) ≡ record { image = u; line = record { 0 = l }; sample = j }
  -- the image is 1 to 4; if the picture has lines 1 to 2160 and samples 0 to 3839, its images have lines 1 to 1080, samples 0 to 1919 (5.3)
  pub images : (line sample : ℕ) → (1 ≤ image_at line sample) × (image_at line sample ≤ 4)
  pub lines : (line : ℕ) → 1 ≤ line → line ≤ 2160 → (1 ≤ image_line line) × (image_line line ≤ 1080)
  pub samples : (sample : ℕ) → sample ≤ 3839 → image_sample sample ≤ 1919
  -- lines 1 to 2160 and samples 0 to 3839 have a place, and anything else is refused with 2
  pub placed : (line sample : ℕ) → 1 ≤ line → line ≤ 2160 → sample ≤ 3839 → placed_of line sample ≡ given (place_of line sample)
  pub place_meets2 :
      (line sample : ℕ) → (1 ≤ line → line ≤ 2160 → sample ≤ 3839 → ⊥) → placed_of line sample ≡ refused 2 0
  -- a place's stream line is the one on which its line travels
  pub place_travels : (line sample : ℕ) (p : Place) → placed_of line sample ≡ given p → stream_line_of p.line.0 ≡ some p.stream.0
  pub line_of_place :
      (line sample : ℕ) (p : Place) → placed_of line sample ≡ given p → picture_line_on p.stream.0 p.image ≡ some line
  -- the paper's number and values tell any two answers apart, so that a contract about them fixes the answer
  pub placed_told : Injective paper_placed
