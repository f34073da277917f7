-- The symbol of each character, the disparity after it, and the character of each symbol.
-- A symbol is a ten-bit number whose lowest bit is sent first (document 01, "A span"; 004, 7.1.1 and 7.1.2: sent LSB first).
-- Assumes nothing.
use Rattle.std.specs.Prelude.{ℕ, zero, suc, ◌+◌, ◌*◌, ◌/◌, ◌%◌, ◌^◌, Bool, false, ◌&&◌, ◌||◌, cond, List, [], ◌∷◌, eqb, get_or}
use Rattle.std.proofs.Math.Option.{Option}
use Rattle.std.specs.Int.Count.{ones_in}
use Rattle.ground.specs.Search.{first_below}
use Rattle.symbol.specs.declared.disparity.Disparity.{Disparity}
use Rattle.symbol.specs.Blocks.{six_bits, six_bits_k28, four_bits, alternate, alternate_at, four_bits_special}
use Rattle.symbol.specs.Character.{characters, is_special, x_of, y_of}
use Rattle.symbol.specs.Disparity.{after_six, after_four}

abbrev pub one_of : ℕ → List ℕ → Bool
one_of x [] = false
one_of x (y ∷ ys) = eqb x y || one_of x ys

-- abcdei of character c, where the disparity before it is d
unfoldable pub six_of : Disparity → ℕ → ℕ
unfolding six_bits six_bits_k28 x_of
six_of d c = cond (is_special c && eqb (x_of c) 28) (six_bits_k28 d) (get_or (six_bits d) (x_of c) 0)

-- fghj of character c, where the disparity after its six bits is d
unfoldable pub four_of : Disparity → ℕ → ℕ
unfolding four_bits alternate alternate_at four_bits_special x_of y_of
four_of d c =
    cond (is_special c) (get_or (four_bits_special d) (y_of c) 0)
    (cond (eqb (y_of c) 7 && one_of (x_of c) (alternate_at d)) (alternate d) (get_or (four_bits d) (y_of c) 0))

-- the disparity between the two blocks
unfoldable pub between_of : Disparity → ℕ → Disparity
unfolding six_of ones_in
between_of d c = after_six d (six_of d c)

-- the disparity after the character
unfoldable pub after_of : Disparity → ℕ → Disparity
unfolding between_of four_of ones_in
after_of d c = after_four (between_of d c) (four_of (between_of d c) c)

-- n bits in reverse order
unfoldable pub reversed : ℕ → ℕ → ℕ
reversed zero b = 0
reversed (suc n) b = b % 2 * 2 ^ n + reversed n (b / 2)

-- the symbol of character c, where the disparity before it is d: abcdeifghj, a being the lowest bit
unfoldable pub symbol_of : Disparity → ℕ → ℕ
unfolding reversed six_of four_of between_of
symbol_of d c = reversed 10 (six_of d c * 2 ^ 4 + four_of (between_of d c) c)

-- the character whose symbol is s, where the disparity before it is d, if there is one
unfoldable pub char_of : Disparity → ℕ → Option ℕ
char_of d s = first_below characters (λ c. eqb (symbol_of d c) s)
