-- What a table of all characters is filled with, and where.
-- Assumes nothing.
use Rattle.std.specs.Prelude.{ℕ, ◌+◌, List, get_or, set}
use Rattle.std.specs.Int.Bits.{bit_and, bit_or, bit_xor}
use Rattle.std.proofs.lemmas.List.Edits.{sets}
use Rattle.ground.specs.Written.{upto, table}
use Rattle.symbol.specs.declared.disparity.Disparity.{Disparity}
use Rattle.symbol.specs.Blocks.{six_bits_k28, alternate, alternate_at}
use Rattle.block.specs.Inside.Bits.{as_symbol}

-- `same` where the mask has no bit, `other` where it has all
abbrev pub picked : ℕ → ℕ → ℕ → ℕ
picked mask same other = bit_xor same (bit_and mask (bit_xor same other))

-- what the six bits of Dx or Kx and four bits bring together
abbrev pub both_blocks : List ℕ → ℕ → ℕ → ℕ
both_blocks low x four = bit_or (get_or low x 0) four

-- the 32 bytes of one y
unfoldable pub row_of : List ℕ → List ℕ → ℕ → ℕ → List ℕ
row_of low masks same other = table 32 (λ x. both_blocks low x (picked (get_or masks x 0) same other))

-- the rows of y = 0 to 7
unfoldable pub all_rows : List ℕ → List ℕ → List ℕ → List ℕ → List ℕ
unfolding row_of
all_rows low masks same other = upto 8 (λ y. row_of low masks (get_or same y 0) (get_or other y 0))

-- K28.0 to K28.7
unfoldable pub k28s_of : ℕ → List ℕ → List ℕ
k28s_of k28 special = table 8 (λ y. bit_or k28 (get_or special y 0))

-- K23.7, K27.7, K29.7 and K30.7, put from `at` on
unfoldable pub other_specials_put : List ℕ → ℕ → List ℕ → ℕ → List ℕ
other_specials_put low seven l at =
    set (set (set (set l at (both_blocks low 23 seven)) (at + 1) (both_blocks low 27 seven)) (at + 2) (both_blocks low 29 seven)) (at + 3)
    (both_blocks low 30 seven)

-- all characters in the order of their numbers
unfoldable pub characters_put : List ℕ → List ℕ → List ℕ → List ℕ → ℕ → List ℕ → List ℕ → ℕ → List ℕ
unfolding all_rows k28s_of other_specials_put
characters_put low masks same other k28 special l at =
    other_specials_put low (get_or special 7 0) (sets (sets l at (all_rows low masks same other)) (at + 256) (k28s_of k28 special)) (at + 264)

-- the bytes that take the alternate form of .7 at disparity d, put into their row, which begins at `at`
unfoldable pub alternates_put : Disparity → List ℕ → List ℕ → ℕ → List ℕ
unfolding alternate alternate_at as_symbol
alternates_put d low l at = put (x 2) (put (x 1) (put (x 0) l))
  where
    x : ℕ → ℕ
    x k = get_or (alternate_at d) k 0

    put : ℕ → List ℕ → List ℕ
    put x t = set t (at + x) (both_blocks low x (as_symbol 0 (alternate d)))

-- the symbols of all characters at disparity d
unfoldable pub symbols_put : Disparity → List ℕ → List ℕ → List ℕ → List ℕ → List ℕ → List ℕ → ℕ → List ℕ
unfolding alternates_put characters_put six_bits_k28 as_symbol
symbols_put d low masks same other special l at =
    alternates_put d low (characters_put low masks same other (as_symbol (six_bits_k28 d) 0) special l at) (at + 224)
