-- The formats: the part that only loops and proofs use. The rest is in specs/Format.
-- Assumes nothing.
use Rattle.std.specs.Prelude.{◌≤◌}
use Rattle.span.specs.declared.format.Shape.{Shape}

-- bounds of every shape; the lower ones where there are streams
pub record Small (p : Shape) : Type 0 where
  pub half : p.stream_pairs ≤ 2
  pub ancillary : p.ancillary ≤ 708
  pub fill : p.fill_pairs ≤ 1056
  pub long_area : 1 ≤ p.stream_pairs → 268 ≤ p.ancillary
  pub long_fill : 1 ≤ p.stream_pairs → 440 ≤ p.fill_pairs
