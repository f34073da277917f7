-- The image that a stream carries, by one formula for two streams and for four.
-- Assumes nothing.
use Rattle.std.specs.Prelude.{ℕ, ◌+◌, ◌-◌, ◌*◌}

-- links and streams count from 1
abbrev pub image_on : ℕ → ℕ → ℕ
image_on link stream = 2 * (link - 1) + stream
