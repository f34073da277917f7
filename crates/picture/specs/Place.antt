-- The place of a sample of a 4K picture: one step of division, and the stream line that carries it (004, 5.3 and 6.1); and the way back from
-- a stream line to the line of the picture (document 01, "Dividing a picture").
-- Assumes nothing.
use Rattle.std.specs.Prelude.{ℕ, ◌+◌, Bool, cond, ◌&&◌, [], ◌∷◌, leb, Result, Ok, Err}
use Rattle.std.proofs.Math.Option.{Option, none, map}
use Rattle.ground.specs.Answer.{Answer, refused, given, unless, checked}
use Rattle.ground.specs.Range.{within}
use Rattle.line.specs.Picture.{basic_line_of}
use Rattle.picture.specs.declared.division.Quarter.{Quarter}
use Rattle.picture.specs.declared.place.Place.{Place}
use Rattle.picture.specs.declared.place.Outside.{Outside}
use Rattle.picture.specs.Division.{halved, line_from}

-- 5.3: the lines of a 4K picture are 1 to 2160, its samples 0 to 3839
abbrev pub is_picture_line : ℕ → Bool
is_picture_line line = within 1 2160 line

abbrev pub is_sample : ℕ → Bool
is_sample sample = leb sample 3839

-- 6.1: a basic image's sample, with the stream line that carries its line: line l travels on stream line l + 41
abbrev pub carried : Quarter → Place
carried q = record { image = q.image; line = q.line; stream = record { 0 = q.line.0 + 41 }; sample = q.sample }

-- a 4K picture is divided once
abbrev pub place_of : ℕ → ℕ → Place
place_of line sample = carried (halved line sample)

-- the paper's number and values for each answer
abbrev pub paper_placed : Result Place Outside → Answer Place
paper_placed (Ok p) = given p
paper_placed (Err e) = refused 2 0

-- the place of a sample of a picture line; 2 if the picture has no such line or no such sample
abbrev pub placed_of : ℕ → ℕ → Answer Place
placed_of line sample = checked (unless 2 (is_picture_line line && is_sample sample) ∷ []) (place_of line sample)

-- ---- the way back

-- the basic images are 1 to 4
abbrev pub is_image : ℕ → Bool
is_image u = within 1 4 u

-- the line of the picture that stream line n carries for image u: line 2l - 1 + h, where l is the basic image's line on it; none if n is not
-- an active line, or u not an image
abbrev pub picture_line_on : ℕ → ℕ → Option ℕ
picture_line_on n u = cond (is_image u) (map (line_from u) (basic_line_of n)) none
