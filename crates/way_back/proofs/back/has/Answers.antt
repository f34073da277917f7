-- `way_back::back::has` meets its contract.
-- Assumes nothing.
use native.Mathlib.Omega.{arith}
use Rattle.span.proofs.Formats.{small}
use Rattle.way_back.proofs.back.has.Goals as goal

pub overflow_mul-pairs : goal.overflow_mul-pairs
overflow_mul-pairs c = omega (arith, (small c.args.f c.shape_of-pairs.ensures).half)

pub overflow_cast-pairs : goal.overflow_cast-pairs
overflow_cast-pairs c = omega (arith, (small c.args.f c.shape_of-pairs.ensures).half)
