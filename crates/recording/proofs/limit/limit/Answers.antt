-- `recording::limit::limit` meets its contract.
-- Assumes nothing.
use native.Mathlib.Omega.{arith}
use Rattle.recording.specs.Recording.{limit}
use Rattle.recording.proofs.limit.limit.Goals as goal

pub returns : goal.returns
unfolding limit
returns c = omega arith
