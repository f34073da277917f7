-- The 8B/10B code in the numerals of its published tables (ANSI INCITS 230; IEEE 802.3, tables 36-1 and 36-2), and by its authors'
-- equations, so that the blocks of `Blocks` and the rules of `Code` and `Disparity` can be wrong in no place; `proofs/Paper` proves each.
-- Assumes nothing.
use Rattle.std.specs.Prelude.{ℕ, ◌+◌, ◌*◌, ◌/◌, ◌<◌, ◌≡◌, List, [], ◌∷◌, map, get_or}
use Rattle.std.specs.Int.Count.{ones_in}
use Rattle.symbol.specs.declared.disparity.Disparity.{Disparity}
use Rattle.symbol.specs.declared.disparity.Disparity.TheVariants.{Negative, Positive}
use Rattle.symbol.specs.declared.special.Special.{Special}
use Rattle.symbol.specs.declared.special.Special.TheVariants.{K28_0, K28_1, K28_2, K28_3, K28_4, K28_5, K28_6, K28_7, K23_7, K27_7, K29_7, K30_7}
use Rattle.symbol.specs.Blocks.{six_bits}
use Rattle.symbol.specs.Character.{number_of}
use Rattle.symbol.specs.Code.{reversed, symbol_of, after_of}
use Rattle.symbol.specs.Equations.{symbol_by, after_by}

-- a row of a published table: the bits abcdei fghj of a character at negative and at positive disparity, a on the left
pub record Printed : Type 0 where
  pub negative : ℕ
  pub positive : ℕ

-- the same of a character's symbols, whose lowest bit is a
abbrev pub printed_of : ℕ → Printed
printed_of c = record { negative = reversed 10 (symbol_of Negative c); positive = reversed 10 (symbol_of Positive c) }

-- Dx.y and Kx.y
abbrev pub d : ℕ → ℕ → Printed
d x y = printed_of (32 * y + x)

abbrev pub k : Special → Printed
k special = printed_of (number_of special)

infixl 20 ◌is◌
abbrev ◌is◌ : ℕ → ℕ → Printed
n is p = record { negative = n; positive = p }

-- each x whose six bits are not the same at both disparities, and among these each y
abbrev pub data_rows : List Printed
data_rows = d 0 0 ∷ d 1 1 ∷ d 2 2 ∷ d 4 3 ∷ d 7 4 ∷ d 8 5 ∷ d 15 6 ∷ d 16 7 ∷ d 23 0 ∷ d 24 1 ∷ d 27 2 ∷ d 29 3 ∷ d 30 4 ∷ d 31 5 ∷ []

-- the six bytes with the alternate form of .7, at the disparity that takes it and at the other
abbrev pub alternate_rows : List Printed
alternate_rows = d 17 7 ∷ d 18 7 ∷ d 20 7 ∷ d 11 7 ∷ d 13 7 ∷ d 14 7 ∷ []

abbrev pub special_rows : List Printed
special_rows =
    k K28_0 ∷ k K28_1 ∷ k K28_2 ∷ k K28_3 ∷ k K28_4 ∷ k K28_5 ∷ k K28_6 ∷ k K28_7
    ∷ k K23_7 ∷ k K27_7 ∷ k K29_7 ∷ k K30_7 ∷ []

-- the x whose six bits are the same at both disparities, but for 7
abbrev pub balanced : List ℕ
balanced = 3 ∷ 5 ∷ 6 ∷ 9 ∷ 10 ∷ 11 ∷ 12 ∷ 13 ∷ 14 ∷ 17 ∷ 18 ∷ 19 ∷ 20 ∷ 21 ∷ 22 ∷ 25 ∷ 26 ∷ 28 ∷ []

pub record SymbolPaper : Type 0 where
  pub data_table :
      data_rows
      ≡ (0b1001110100 is 0b0110001011)
      ∷ (0b0111011001 is 0b1000101001)
      ∷ (0b1011010101 is 0b0100100101)
      ∷ (0b1101010011 is 0b0010101100)
      ∷ (0b1110001101 is 0b0001110010)
      ∷ (0b1110011010 is 0b0001101010)
      ∷ (0b0101110110 is 0b1010000110)
      ∷ (0b0110110001 is 0b1001001110)
      ∷ (0b1110100100 is 0b0001011011)
      ∷ (0b1100111001 is 0b0011001001)
      ∷ (0b1101100101 is 0b0010010101)
      ∷ (0b1011100011 is 0b0100011100)
      ∷ (0b0111100010 is 0b1000011101)
      ∷ (0b1010111010 is 0b0101001010)
      ∷ []
  pub alternate_table :
      alternate_rows
      ≡ (0b1000110111 is 0b1000110001)
      ∷ (0b0100110111 is 0b0100110001)
      ∷ (0b0010110111 is 0b0010110001)
      ∷ (0b1101001110 is 0b1101001000)
      ∷ (0b1011001110 is 0b1011001000)
      ∷ (0b0111001110 is 0b0111001000)
      ∷ []
  pub special_table :
      special_rows
      ≡ (0b0011110100 is 0b1100001011)
      ∷ (0b0011111001 is 0b1100000110)
      ∷ (0b0011110101 is 0b1100001010)
      ∷ (0b0011110011 is 0b1100001100)
      ∷ (0b0011110010 is 0b1100001101)
      ∷ (0b0011111010 is 0b1100000101)
      ∷ (0b0011110110 is 0b1100001001)
      ∷ (0b0011111000 is 0b1100000111)
      ∷ (0b1110101000 is 0b0001010111)
      ∷ (0b1101101000 is 0b0010010111)
      ∷ (0b1011101000 is 0b0100010111)
      ∷ (0b0111101000 is 0b1000010111)
      ∷ []
  -- where the six bits are the same at both disparities, abcde are the byte's own low five bits, a the lowest, and three of the six are ones
  pub own_bits : (e : Disparity) → map (λ (x : ℕ). get_or (six_bits e) x 0 / 2) balanced ≡ map (reversed 5) balanced
  pub three_ones : (e : Disparity) → map (λ (x : ℕ). ones_in 6 (get_or (six_bits e) x 0)) balanced ≡ map (λ (x : ℕ). 3) balanced
  -- every character has, at both disparities, the symbol that the authors' equations give it, and leaves the disparity that they say
  pub equations : (e : Disparity) (c : ℕ) → c < 268 → (symbol_by e c ≡ symbol_of e c) × (after_by e c ≡ after_of e c)
