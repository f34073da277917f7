-- `read_test21_26::holds::v_named` meets its contract.
-- Assumes nothing.
use Rattle.ground.specs.Range.{within}
use Rattle.read_test21_26.proofs.holds.v_named.Goals as goal

pub returns-in-Err : goal.returns-in-Err
unfolding within
returns-in-Err c = rw c.in-Err.is
