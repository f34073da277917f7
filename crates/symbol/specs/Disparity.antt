-- The running disparity (ANSI INCITS 230, the 8B/10B code; the same in IEEE 802.3, 36.2.4.4).
-- Assumes nothing.
use Rattle.std.specs.Prelude.{ℕ, ◌*◌, Bool, true, false, ◌||◌, cond, eqb, ltb}
use Rattle.std.specs.Int.Count.{ones_in}
use Rattle.symbol.specs.declared.disparity.Disparity.{Disparity}
use Rattle.symbol.specs.declared.disparity.Disparity.TheVariants.{Negative, Positive}

-- before a fresh signal (document 01, "A span"; 004, 7.1.1 and 7.1.2: encoding starts at the first K28.5, at negative RD)
abbrev pub fresh : Disparity
fresh = Negative

-- after a block of this many bits: positive if it has more ones than zeros, or is `up`; negative if it has more zeros than ones, or is
-- `down`; else as it was before the block
abbrev after_block : ℕ → ℕ → ℕ → Disparity → ℕ → Disparity
after_block bits up down d block =
    cond (ltb bits (2 * ones_in bits block) || eqb block up) Positive
    (cond (ltb (2 * ones_in bits block) bits || eqb block down) Negative d)

-- the standard's rule for the six bits and for the four, the bit sent first on the left
abbrev pub after_six : Disparity → ℕ → Disparity
after_six = after_block 6 0b000111 0b111000

abbrev pub after_four : Disparity → ℕ → Disparity
after_four = after_block 4 0b0011 0b1100

-- whether it is positive
abbrev pub is_positive : Disparity → Bool
is_positive Negative = false
is_positive Positive = true
