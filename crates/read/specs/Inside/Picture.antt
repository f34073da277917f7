-- The tests of a window that the reader's private functions make.
-- Assumes nothing.
use Rattle.std.specs.Prelude.{ℕ, Bool, true, cond, List, take, drop}
use Rattle.std.proofs.Math.Option.{Option}
use Rattle.ground.specs.Answer.{Row}
use Rattle.line.specs.Stream.{is_active}
use Rattle.span.specs.declared.format.Format.{Format}
use Rattle.span.specs.Format.{shape_of}
use Rattle.window.specs.Read.{word_tests}
use Rattle.window.specs.Words.{word_at}
use Rattle.read_test21_26.specs.declared.service.Test.{Test}
use Rattle.read_test21_26.specs.Inside.Call.{place_of}
use Rattle.read_test21_26.specs.Inside.Picture.{all_allowed}

-- tests 21 to 24, and tests 25 and 26
abbrev pub line_tests : Format → List ℕ → List Row
line_tests f w = take 4 (word_tests f (word_at (shape_of f) w))

abbrev pub picture_tests : Format → List ℕ → List Row
picture_tests f w = drop 4 (word_tests f (word_at (shape_of f) w))

-- where the second two do not hold, at the lowest place
abbrev pub wrong_place : Test → Format → List ℕ → Option ℕ
wrong_place test f w = place_of test f w

-- line n may carry this picture
abbrev pub right_picture : Format → ℕ → List ℕ → Bool
right_picture f n rows = cond (is_active n) (all_allowed f.depth rows) true
