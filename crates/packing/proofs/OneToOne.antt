-- The paper's values tell the answers apart.
-- Assumes nothing.
use mathlib.Core.Path.{◌≡◌, refl}
use Rattle.ground.specs.Answer.{Answer, refused, given}
use Rattle.ground.specs.Inside.Answer.{Injective}
use Rattle.ground.proofs.Answers.{told_again}
use Rattle.packing.specs.declared.bytes.ThreeBytes.{ThreeBytes}
use Rattle.std.specs.Prelude.{Result, Ok, Err}
use Rattle.packing.specs.declared.bytes.Above4095.{Above4095}
use Rattle.packing.specs.Bytes.{paper_packed}

abbrev packed_again : Answer ThreeBytes → Result ThreeBytes Above4095
packed_again (refused n place) = Err (record {})
packed_again (given t) = Ok t

pub packed_one_to_one : Injective paper_packed
packed_one_to_one = told_again packed_again again
  where
    again : (r : Result ThreeBytes Above4095) → packed_again (paper_packed r) ≡ r
    again (Ok t) = refl
    again (Err e) = refl
