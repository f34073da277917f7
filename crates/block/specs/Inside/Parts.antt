-- What blocks bring to the entries of the encoder's tables.
-- Assumes nothing.
use Rattle.std.specs.Prelude.{ℕ, cond, List, get_or}
use Rattle.std.specs.Int.Bits.{bit_xor}
use Rattle.ground.specs.Written.{table}
use Rattle.block.specs.Inside.Bits.{as_symbol, unbalanced}

-- to a symbol: six bits its low bits, four bits its high ones
unfoldable pub low_bits : List ℕ → List ℕ
low_bits blocks = table 32 (λ x. as_symbol (get_or blocks x 0) 0)

unfoldable pub high_bits : List ℕ → List ℕ
high_bits blocks = table 8 (λ y. as_symbol 0 (get_or blocks y 0))

-- to the choice of four bits: a mask of all bits where the six bits flip the disparity, else of none
abbrev pub flip_mask : ℕ → ℕ
flip_mask block = cond (unbalanced 3 block) 0xFFFF 0

unfoldable pub six_masks : List ℕ → List ℕ
unfolding unbalanced
six_masks blocks = table 32 (λ x. flip_mask (get_or blocks x 0))

-- to a flip, where that of the six bits alone is `six`
abbrev pub flip_of : ℕ → ℕ → ℕ
flip_of six block = cond (unbalanced 2 block) (bit_xor six 268) six

unfoldable pub four_flips : ℕ → List ℕ → List ℕ
unfolding unbalanced
four_flips six blocks = table 8 (λ y. flip_of six (get_or blocks y 0))
