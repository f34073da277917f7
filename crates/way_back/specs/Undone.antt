-- Place and way back undo each other, for a reader of the papers; `proofs/Undone` proves each.
-- Assumes nothing.
use Rattle.std.specs.Prelude.{ℕ, ◌-◌, ◌≤◌, ◌≡◌}
use Rattle.ground.specs.Answer.{given}
use Rattle.picture.specs.declared.place.Place.{Place}
use Rattle.picture.specs.Division.{sample_from}
use Rattle.picture.specs.Place.{placed_of}
use Rattle.span.specs.declared.format.Format.{Format}
use Rattle.span.specs.Numbers.{IsFormat}
use Rattle.way_back.specs.declared.back.ImageLine.{ImageLine}
use Rattle.way_back.specs.Back.{back_of}

pub record Undone : Type 0 where
  -- a sample of the picture goes to an image and a stream line: on the one link and stream of a format that carries this image, the way back
  -- from that stream line gives the picture's line
  pub back :
      (f : Format) (line sample : ℕ) (p : Place)
      → IsFormat f
      → placed_of line sample ≡ given p
      → (link : ℕ)
      × (stream : ℕ)
      × (back_of f link stream p.stream.0 ≡ given (record { image = p.image; line = record { 0 = line } }))
  -- and no other link or stream gives it
  pub only_there :
      (f : Format) (link stream n link' stream' n' : ℕ) (x : ImageLine)
      → back_of f link stream n ≡ given x
      → back_of f link' stream' n' ≡ given x
      → (link ≡ link') × (stream ≡ stream') × (n ≡ n')
  -- the other way round: each sample of the line that is given has its place in that image, on that stream line
  pub again :
      (f : Format) (link stream n j : ℕ) (x : ImageLine)
      → back_of f link stream n ≡ given x
      → j ≤ 1919
      → placed_of x.line.0 (sample_from x.image j)
      ≡ given (record { image = x.image; line = record { 0 = n - 41 }; stream = record { 0 = n }; sample = j })
