-- `row_crc::fold::with_moved` meets its contract.
-- Assumes nothing.
use mathlib.Core.Path.{refl}
use Rattle.ground.specs.Xor.{◌⊕◌}
use Rattle.row_crc.proofs.fold.with_moved.Goals as goal

pub returns : goal.returns
unfolding ◌⊕◌
returns c = refl
