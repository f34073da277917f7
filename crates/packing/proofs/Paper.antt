-- Packing in document 01's own numerals, proved.
-- Assumes nothing.
use mathlib.Core.Path.{◌≡◌, refl, ap, ◌∙◌}
use native.Mathlib.Omega.{arith}
use Rattle.packing.specs.declared.bytes.ThreeBytes.{ThreeBytes}
use Rattle.packing.specs.Bytes.{bytes_of, unpacked}
use Rattle.packing.specs.Paper.{bcfade, PackingPaper}
use Rattle.packing.proofs.Packing.{unpack_pack}

-- the bytes of ABC and DEF
are_these : bytes_of 0xABC 0xDEF ≡ bcfade
unfolding bytes_of
are_these = refl

pub packing_paper : PackingPaper
unfolding bytes_of
packing_paper = record {
  abcdef = refl;
  back = ap (λ (t : ThreeBytes). unpacked t) are_these ∙ unpack_pack 0xABC 0xDEF (omega arith) (omega arith);
  ten = λ x h. omega arith;
  twelve = λ x h. omega arith;
}
