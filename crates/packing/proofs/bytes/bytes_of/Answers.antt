-- `packing::bytes::bytes_of` meets its contract, which is its code.
-- Assumes nothing.
use mathlib.Core.Path.{refl}
use Rattle.packing.specs.Bytes.{bytes_of}
use Rattle.packing.proofs.bytes.bytes_of.Goals as goal

pub returns : goal.returns
unfolding bytes_of
returns c = refl
