-- `read_test20::see::see_six` meets its contract.
-- Assumes nothing.
use Rattle.read_test20.specs.Inside.See.{seen_six}
use Rattle.read_test20.proofs.see.see_six.Goals as goal

pub returns : goal.returns
unfolding seen_six
returns c = rw (c.see_three-y.ensures, c.see_three-x.ensures)
