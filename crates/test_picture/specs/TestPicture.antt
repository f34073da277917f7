-- A test picture: rings around a place left of and above the middle of a 4K picture, and the samples of it that a link carries. No paper
-- asks for this picture; that lines count from 1 and samples from 0, and which image a stream carries, are document 01's ("Dividing a
-- picture").
-- Assumes nothing.
use Rattle.std.specs.Prelude.{ℕ, ◌+◌, ◌-◌, ◌*◌, ◌/◌, ◌%◌, cond, List, [], eqb}
use Rattle.std.proofs.Math.Option.{Option, none, some}
use Rattle.ground.specs.Written.{upto, table}
use Rattle.picture.specs.Choice.{row_on}
use Rattle.picture.specs.Division.{w}
use Rattle.picture.specs.Place.{picture_line_on}
use Rattle.dividing.specs.Row.{divided}
use Rattle.span.specs.declared.format.Format.{Format}
use Rattle.span.specs.Format.{shape_of, streams}
use Rattle.span.specs.Image.{image_of}
use Rattle.span.specs.Blanking.{blank_row}

-- the distance between two numbers
abbrev pub apart : ℕ → ℕ → ℕ
apart a b = (a - b) + (b - a)

-- the twelve-bit code of a sample of a picture line: the brightest at sample 1280 of line 720, it falls with the square of the distance
-- from there, and wraps from 16 to 4079
unfoldable pub test_sample : ℕ → ℕ → ℕ
test_sample line sample =
    let dx = apart sample 1280 in
    let dy = apart line 720 in
    4079 - (dx * dx + dy * dy) / 512 % 4064

-- the row of a line
abbrev pub test_row : ℕ → List ℕ
test_row line = table 3840 (test_sample line)

-- at twelve bits a code is the sample; at ten a quarter of it is, so that the word sent for it (004, 6.1: shifted left by two) is the code
-- without its low two bits
abbrev pub code_step : Format → ℕ
code_step f = cond (eqb f.depth 10) 4 1

-- a sample in steps of this many codes, and the row of a line in the steps of a format
abbrev pub sample_by : ℕ → ℕ → ℕ → ℕ
sample_by step line sample = test_sample line sample / step

unfoldable pub row_in_steps : ℕ → ℕ → List ℕ
row_in_steps step line = table 3840 (sample_by step line)

abbrev pub row_at : Format → ℕ → List ℕ
row_at f line = row_in_steps (code_step f) line

-- what image u has of a line of the picture; nothing where there is no line
abbrev pub image_from : Format → ℕ → Option ℕ → List ℕ
image_from f u (some line) = divided (w u) 1920 (row_at f line)
image_from f u none = []

-- what stream t, counted from 0, carries of it on stream line n: what its image has of the line of the picture there. The link is the one of
-- the first images: 1 and 2, and with four streams also 3 and 4.
abbrev pub image_row : Format → ℕ → ℕ → List ℕ
image_row f n t = let u = image_of f 1 t in image_from f u (picture_line_on n u)

-- what is sent on stream line n, stream by stream: the picture on active lines, blanking on all others
unfoldable pub test_samples : Format → ℕ → List ℕ
test_samples f n = row_on n (upto (streams (shape_of f)) (image_row f n)) (blank_row f)
