-- Dividing a row of a picture into the rows of two images, and joining them: the part that only loops and proofs use. The rest is
-- in specs/Row.
-- Assumes nothing.
use Rattle.std.specs.Prelude.{ℕ, zero, suc, List}

-- the row for a given w: the first for 0, the second for 1
abbrev pub row_with : ℕ → List ℕ → List ℕ → List ℕ
row_with zero first second = first
row_with (suc w) first second = second
