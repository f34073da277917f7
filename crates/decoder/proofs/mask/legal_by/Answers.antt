-- `crate::mask::legal_by` meets its contract, which is its code.
-- Assumes nothing.
use mathlib.Core.Path.{refl}
use Rattle.decoder.specs.Inside.Mask.{legal_by}
use Rattle.decoder.proofs.mask.legal_by.Goals as goal

pub returns : goal.returns
unfolding legal_by
returns c = refl
