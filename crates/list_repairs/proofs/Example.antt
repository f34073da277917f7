-- Examples: what is printed, computed.
-- Assumes nothing.
use mathlib.Core.Path.{◌≡◌, refl}
use mathlib.Core.List.{[], ◌∷◌}
use Rattle.ground.specs.Bit.{bit_in}
use Rattle.ground.specs.Search.{first_from, first_below}
use Rattle.ground.specs.Written.{upto}
use Rattle.ground.specs.Xor.{◌⊕◌}
use Rattle.text.specs.Number.{places_of}
use Rattle.word.specs.Repair.{distance, differs_at, bit_of, nearest}
use Rattle.word.specs.Timing.{timing}
use Rattle.list_repairs.specs.Text.{repair_listing}

pub example :
    repair_listing (0x01 ∷ 0x08 ∷ 0x03 ∷ 0x08 ∷ [])
    ≡ 48 ∷ 32 ∷ 48 ∷ 56 ∷ 48 ∷ 49 ∷ 32 ∷ 48 ∷ 56 ∷ 48 ∷ 48 ∷ 32 ∷ 49 ∷ 32 ∷ 48 ∷ 10
    ∷ 49 ∷ 32 ∷ 48 ∷ 56 ∷ 48 ∷ 51 ∷ 32 ∷ 114 ∷ 101 ∷ 102 ∷ 117 ∷ 115 ∷ 101 ∷ 100 ∷ 10 ∷ []
unfolding upto places_of timing nearest distance differs_at bit_of bit_in first_below first_from ◌⊕◌
example = refl

pub example_of_bits :
    repair_listing (0x00 ∷ 0x08 ∷ 0x00 ∷ 0x00 ∷ [])
    ≡ 48 ∷ 32 ∷ 48 ∷ 56 ∷ 48 ∷ 48 ∷ 32 ∷ 48 ∷ 56 ∷ 48 ∷ 48 ∷ 32 ∷ 48 ∷ 32 ∷ 45 ∷ 10
    ∷ 49 ∷ 32 ∷ 48 ∷ 48 ∷ 48 ∷ 48 ∷ 32 ∷ 48 ∷ 56 ∷ 48 ∷ 48 ∷ 32 ∷ 49 ∷ 32 ∷ 49 ∷ 49 ∷ 10 ∷ []
unfolding upto places_of timing nearest distance differs_at bit_of bit_in first_below first_from ◌⊕◌
example_of_bits = refl
