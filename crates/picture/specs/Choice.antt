-- The row that a stream line carries (document 01, "Sending").
-- Assumes nothing.
use Rattle.std.specs.Prelude.{ℕ, cond}
use Rattle.line.specs.Stream.{is_active}

-- the picture on lines 42 to 1121, the blanking on any other number
abbrev pub row_on : {A : Type 0} → ℕ → A → A → A
row_on n picture blanking = cond (is_active n) picture blanking
