-- The stream line that carries a line of a basic image (004, 6.1: lines 1 to 1080 go to stream lines 42 to 1121), and the way back.
-- Assumes nothing.
use Rattle.std.specs.Prelude.{ℕ, ◌+◌, ◌-◌, Bool, cond, Option as Answered, Some, None}
use Rattle.std.proofs.Math.Option.{Option, none, some}
use Rattle.ground.specs.Range.{within}
use Rattle.line.specs.declared.picture.PictureLine.{PictureLine}
use Rattle.line.specs.declared.stream.StreamLine.{StreamLine}
use Rattle.line.specs.Stream.{is_active}

-- a basic image's lines run from 1 to 1080
abbrev pub is_basic_line : ℕ → Bool
is_basic_line l = within 1 1080 l

-- basic image line l travels on stream line l + 41; any other number is no line of a basic image, and travels on none
abbrev pub stream_line_of : ℕ → Option ℕ
stream_line_of l = cond (is_basic_line l) (some (l + 41)) none

-- and back: a line of frame blanking carries none
abbrev pub basic_line_of : ℕ → Option ℕ
basic_line_of n = cond (is_active n) (some (n - 41)) none

-- the number in each answer, if it has one; the papers give no refusal here
abbrev pub number_on : Answered StreamLine → Option ℕ
number_on (Some l) = some l.0
number_on None = none

abbrev pub number_carried : Answered PictureLine → Option ℕ
number_carried (Some l) = some l.0
number_carried None = none
