-- One step of division (004, 5.3; document 01, "Dividing a picture"): an image is divided into four of half its lines and half
-- its samples. Lines count from 1, samples from 0. The step does not depend on size, so it can be repeated.
-- Assumes nothing.
use Rattle.std.specs.Prelude.{ℕ, ◌+◌, ◌-◌, ◌*◌, ◌/◌, ◌%◌}
use Rattle.picture.specs.declared.division.Quarter.{Quarter}

-- 5.3: the even samples of odd lines go to image 1, the odd samples of odd lines to image 2, the even samples of even lines to image 3, the
-- odd samples of even lines to image 4
unfoldable pub image_at : ℕ → ℕ → ℕ
image_at line sample = 1 + 2 * ((line + 1) % 2) + sample % 2

-- lines keep their order in their image, counted from 1: lines 1 and 2 give line 1
unfoldable pub image_line : ℕ → ℕ
image_line line = (line + 1) / 2

-- samples keep theirs, counted from 0: samples 0 and 1 give sample 0
unfoldable pub image_sample : ℕ → ℕ
image_sample sample = sample / 2

-- the step: from a line and a sample to the image, and the line and sample in it
abbrev pub halved : ℕ → ℕ → Quarter
halved line sample = record { image = image_at line sample; line = record { 0 = image_line line }; sample = image_sample sample }

-- document 01: h is 0 for u = 1, 2 and 1 for u = 3, 4
unfoldable pub h : ℕ → ℕ
h u = (u - 1) / 2

-- w is 0 for u = 1, 3 and 1 for u = 2, 4
unfoldable pub w : ℕ → ℕ
w u = (u - 1) % 2

-- the way back: line l of image u is line 2l - 1 + h, and its sample j is sample 2j + w
unfoldable pub line_from : ℕ → ℕ → ℕ
unfolding h
line_from u l = 2 * l - 1 + h u

unfoldable pub sample_from : ℕ → ℕ → ℕ
unfolding w
sample_from u j = 2 * j + w u
