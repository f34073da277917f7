-- The frame that the rig sends: stream lines 1 to 1125 in order, in pieces of five.
-- Assumes nothing.
use Rattle.std.specs.Prelude.{ℕ, ◌+◌, ◌*◌}

-- pieces count from 0, and each has five lines: 1 to 5, 6 to 10, and so on
abbrev pub line_of_piece : ℕ → ℕ → ℕ
line_of_piece piece k = 5 * piece + 1 + k
