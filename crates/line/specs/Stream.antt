-- The lines of a basic stream (004, 6.1 and table 5; document 01, "Dividing a picture" and "A span").
-- Assumes nothing.
use Rattle.std.specs.Prelude.{ℕ, ◌+◌, ◌-◌, Bool, cond, not, ltb}
use Rattle.ground.specs.Range.{within}

-- a stream's lines run from 1 to 1125
abbrev pub is_line : ℕ → Bool
is_line n = within 1 1125 n

-- those that carry the picture (table 5: 42 to 1121; frame blanking is 1 to 41 and 1122 to 1125)
abbrev pub is_active : ℕ → Bool
is_active n = within 42 1121 n

-- V: 1 in frame blanking, 0 in the active frame (004, 6.2)
abbrev pub v_of : ℕ → Bool
v_of n = not (is_active n)

-- the line after: line 1 follows 1125 (document 01, "A span"); for any number above that it is 1 as well
abbrev pub line_after : ℕ → ℕ
line_after n = cond (ltb n 1125) (n + 1) 1

-- the line before: 1125 comes before 1, and there is no line 0; for any number that is not a line it is 1125 as well
abbrev pub line_before : ℕ → ℕ
line_before n = cond (within 2 1125 n) (n - 1) 1125
