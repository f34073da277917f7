-- The blocks of the code as its tables print them, the bit sent first on the left: abcdei of the 5b/6b table, fghj of the 3b/4b table.
-- Each table has a column for negative and one for positive disparity before the block.
-- The code is that of ANSI INCITS 230, named by 004, 7.1.1 and 7.1.2.
-- Assumes nothing.
use Rattle.std.specs.Prelude.{ℕ, List, [], ◌∷◌}
use Rattle.symbol.specs.declared.disparity.Disparity.{Disparity}
use Rattle.symbol.specs.declared.disparity.Disparity.TheVariants.{Negative, Positive}

-- 5b/6b, x = 0 to 31
unfoldable pub six_bits : Disparity → List ℕ
six_bits Negative =
    0b100111 ∷ 0b011101 ∷ 0b101101 ∷ 0b110001 ∷ 0b110101 ∷ 0b101001 ∷ 0b011001 ∷ 0b111000
    ∷ 0b111001 ∷ 0b100101 ∷ 0b010101 ∷ 0b110100 ∷ 0b001101 ∷ 0b101100 ∷ 0b011100 ∷ 0b010111
    ∷ 0b011011 ∷ 0b100011 ∷ 0b010011 ∷ 0b110010 ∷ 0b001011 ∷ 0b101010 ∷ 0b011010 ∷ 0b111010
    ∷ 0b110011 ∷ 0b100110 ∷ 0b010110 ∷ 0b110110 ∷ 0b001110 ∷ 0b101110 ∷ 0b011110 ∷ 0b101011 ∷ []
six_bits Positive =
    0b011000 ∷ 0b100010 ∷ 0b010010 ∷ 0b110001 ∷ 0b001010 ∷ 0b101001 ∷ 0b011001 ∷ 0b000111
    ∷ 0b000110 ∷ 0b100101 ∷ 0b010101 ∷ 0b110100 ∷ 0b001101 ∷ 0b101100 ∷ 0b011100 ∷ 0b101000
    ∷ 0b100100 ∷ 0b100011 ∷ 0b010011 ∷ 0b110010 ∷ 0b001011 ∷ 0b101010 ∷ 0b011010 ∷ 0b000101
    ∷ 0b001100 ∷ 0b100110 ∷ 0b010110 ∷ 0b001001 ∷ 0b001110 ∷ 0b010001 ∷ 0b100001 ∷ 0b010100 ∷ []

-- 5b/6b, K28
unfoldable pub six_bits_k28 : Disparity → ℕ
six_bits_k28 Negative = 0b001111
six_bits_k28 Positive = 0b110000

-- 3b/4b of a byte, y = 0 to 7; the primary form of .7
unfoldable pub four_bits : Disparity → List ℕ
four_bits Negative = 0b1011 ∷ 0b1001 ∷ 0b0101 ∷ 0b1100 ∷ 0b1101 ∷ 0b1010 ∷ 0b0110 ∷ 0b1110 ∷ []
four_bits Positive = 0b0100 ∷ 0b1001 ∷ 0b0101 ∷ 0b0011 ∷ 0b0010 ∷ 0b1010 ∷ 0b0110 ∷ 0b0001 ∷ []

-- the alternate form of .7
unfoldable pub alternate : Disparity → ℕ
alternate Negative = 0b0111
alternate Positive = 0b1000

-- the x for which a byte x.7 takes it
unfoldable pub alternate_at : Disparity → List ℕ
alternate_at Negative = 17 ∷ 18 ∷ 20 ∷ []
alternate_at Positive = 11 ∷ 13 ∷ 14 ∷ []

-- 3b/4b of a special character, y = 0 to 7
unfoldable pub four_bits_special : Disparity → List ℕ
four_bits_special Negative = 0b1011 ∷ 0b0110 ∷ 0b1010 ∷ 0b1100 ∷ 0b1101 ∷ 0b0101 ∷ 0b1001 ∷ 0b0111 ∷ []
four_bits_special Positive = 0b0100 ∷ 0b1001 ∷ 0b0101 ∷ 0b0011 ∷ 0b0010 ∷ 0b1010 ∷ 0b0110 ∷ 0b1000 ∷ []
