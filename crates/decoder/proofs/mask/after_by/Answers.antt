-- `crate::mask::after_by` meets its contract, which is its code.
-- Assumes nothing.
use mathlib.Core.Path.{refl}
use Rattle.decoder.specs.Inside.Mask.{after_by}
use Rattle.decoder.proofs.mask.after_by.Goals as goal

pub returns : goal.returns
unfolding after_by
returns c = refl
