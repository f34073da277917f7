-- The way back to the picture (document 01, "Dividing a picture"): a component of a picture goes over two links at 120 and 100 Hz, of two
-- streams each, and over one link at 50 Hz, of four streams. Links and streams count from 1.
-- Assumes nothing.
use Rattle.std.specs.Prelude.{ℕ, ◌-◌, Bool, cond, ◌&&◌, List, [], ◌∷◌, eqb, Result, Ok, Err}
use Rattle.ground.specs.Answer.{Answer, refused, given, Row, unless, checked}
use Rattle.ground.specs.Range.{within}
use Rattle.line.specs.Stream.{is_active}
use Rattle.picture.specs.Division.{line_from}
use Rattle.span.specs.declared.format.Format.{Format}
use Rattle.span.specs.Format.{is_known, shape_of, streams}
use Rattle.span.specs.Image.{image_of}
use Rattle.way_back.specs.declared.back.ImageLine.{ImageLine}
use Rattle.way_back.specs.declared.back.BackError.{BackError}
use Rattle.way_back.specs.declared.back.BackError.TheVariants.{UnknownFormat, NoLine}

-- the links of one component, by the pairs of streams of a link
abbrev pub links_by : ℕ → ℕ
links_by pairs = cond (eqb pairs 1) 2 1

-- a component has such a link, and the link such a stream
abbrev pub has_stream : Format → ℕ → ℕ → Bool
has_stream f link stream = within 1 (links_by (shape_of f).stream_pairs) link && within 1 (streams (shape_of f)) stream

-- the image that the stream carries, and the picture's line of it: line l of image u travels on stream line l + 41 and is line 2l - 1 + h
abbrev pub image_line_on : Format → ℕ → ℕ → ℕ → ImageLine
image_line_on f link stream n =
    record { image = image_of f link (stream - 1); line = record { 0 = line_from (image_of f link (stream - 1)) (n - 41) } }

-- such a stream brings a line of the picture on stream line n
abbrev pub brings_line : Format → ℕ → ℕ → ℕ → Bool
brings_line f link stream n = has_stream f link stream && is_active n

-- 1 for an unknown format; 2 if there is no such link or stream, or the stream line carries no picture
abbrev pub back_rows : Format → ℕ → ℕ → ℕ → List Row
back_rows f link stream n = unless 1 (is_known f) ∷ unless 2 (brings_line f link stream n) ∷ []

abbrev pub back_of : Format → ℕ → ℕ → ℕ → Answer ImageLine
back_of f link stream n = checked (back_rows f link stream n) (image_line_on f link stream n)

-- the paper's number and values for each answer
abbrev pub paper_back : Result ImageLine BackError → Answer ImageLine
paper_back (Ok x) = given x
paper_back (Err UnknownFormat) = refused 1 0
paper_back (Err NoLine) = refused 2 0
