-- A range of numbers, both ends included.
-- Assumes nothing.
use Rattle.std.specs.Prelude.{ℕ, Bool, ◌&&◌, leb}

unfoldable pub within : ℕ → ℕ → ℕ → Bool
within low high n = leb low n && leb n high
