-- Which basic image a stream carries (document 01, "Dividing a picture"; 004, 7.2.3 and 7.2.4).
-- Assumes nothing.
use Rattle.std.specs.Prelude.{ℕ, ◌+◌, ◌-◌, ◌*◌, cond, eqb}
use Rattle.span.specs.declared.format.Format.{Format}
use Rattle.span.specs.Format.{shape_of}

-- with two streams a link carries images 1 and 2 (pair 1), or 3 and 4 (pair 2); with four it carries 1 to 4. Streams count from 0 here.
unfoldable pub image_of : Format → ℕ → ℕ → ℕ
unfolding shape_of
image_of f pair t = cond (eqb (shape_of f).stream_pairs 1) (2 * (pair - 1) + t + 1) (t + 1)
