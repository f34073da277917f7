-- The 268 characters by number: the bytes are 0 to 255, the twelve special characters 256 to 267 in the order below.
-- Assumes nothing.
use Rattle.std.specs.Prelude.{ℕ, ◌-◌, ◌/◌, ◌%◌, Bool, not, cond, List, [], ◌∷◌, ltb, get_or}
use Rattle.symbol.specs.declared.character.Character.{Character}
use Rattle.symbol.specs.declared.character.Character.TheVariants.{Byte as byte, Special as special}
use Rattle.symbol.specs.declared.special.Special.{Special}
use Rattle.symbol.specs.declared.special.Special.TheVariants.{K28_0, K28_1, K28_2, K28_3, K28_4, K28_5, K28_6, K28_7, K23_7, K27_7, K29_7, K30_7}

-- how many characters there are
abbrev pub characters : ℕ
characters = 268

-- the number of a special character
abbrev pub number_of : Special → ℕ
number_of K28_0 = 256
number_of K28_1 = 257
number_of K28_2 = 258
number_of K28_3 = 259
number_of K28_4 = 260
number_of K28_5 = 261
number_of K28_6 = 262
number_of K28_7 = 263
number_of K23_7 = 264
number_of K27_7 = 265
number_of K29_7 = 266
number_of K30_7 = 267

abbrev pub is_special : ℕ → Bool
is_special c = not (ltb c 256)

-- A character is called Dx.y or Kx.y. For a byte, x is its low five bits and y its high three.
unfoldable pub x_of : ℕ → ℕ
x_of c =
    cond (is_special c) (get_or (28 ∷ 28 ∷ 28 ∷ 28 ∷ 28 ∷ 28 ∷ 28 ∷ 28 ∷ 23 ∷ 27 ∷ 29 ∷ 30 ∷ []) (c - 256) 0) (c % 32)

unfoldable pub y_of : ℕ → ℕ
y_of c = cond (is_special c) (get_or (0 ∷ 1 ∷ 2 ∷ 3 ∷ 4 ∷ 5 ∷ 6 ∷ 7 ∷ 7 ∷ 7 ∷ 7 ∷ 7 ∷ []) (c - 256) 0) (c / 32)

-- the special characters in the order of their numbers
abbrev pub special_names : List Special
special_names =
    K28_0 ∷ K28_1 ∷ K28_2 ∷ K28_3 ∷ K28_4 ∷ K28_5 ∷ K28_6 ∷ K28_7 ∷ K23_7 ∷ K27_7 ∷ K29_7 ∷ K30_7 ∷ []

-- the special character with number 256 + n; the first if there is none
unfoldable pub nth : ℕ → Special
nth n = get_or special_names n K28_0

-- a character as the paper calls it is a byte, or a special character by name
abbrev pub character_of : ℕ → Character
character_of c = cond (is_special c) (special (nth (c - 256))) (byte c)
