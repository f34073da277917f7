-- The entries of the encoder's tables.
-- Assumes nothing.
use mathlib.Core.Path.{◌≡◌, refl, sym, ap, ap₂, ◌∙◌}
use mathlib.Core.Bool.{Bool, true, false, cond}
use Prim.Native.Nat.{ℕ, ◌+◌, ◌/◌, ◌%◌, ◌≤◌, ◌<◌}
use native.Mathlib.Omega.{arith}
use lib.Bits.{bit_xor}
use lib.ListN.{get_or}
use Rattle.ground.proofs.Writing.{get_d_table}
use Rattle.symbol.specs.declared.disparity.Disparity.{Disparity}
use Rattle.symbol.specs.declared.disparity.Disparity.TheVariants.{Negative, Positive}
use Rattle.symbol.specs.Code.{symbol_of, after_of}
use Rattle.symbol.specs.Inside.Code.{flips}
use Rattle.symbol.specs.Inside.Disparity.{flipped_if}
use Rattle.symbol.proofs.Ones.{flips_both}
use Rattle.encoder.specs.Inside.Tables.{offset_of, of_offset, symbol_table, flip_table}

-- a disparity is told again from its offset
pub offset_again : (d : Disparity) → of_offset (offset_of d) ≡ d
unfolding of_offset
offset_again Negative = refl
offset_again Positive = refl

pub offset_below : (d : Disparity) → offset_of d ≤ 268
offset_below Negative = omega arith
offset_below Positive = omega arith

-- after the offset of a disparity stand the symbols at it
pub symbol_at_lem : (d : Disparity) (c : ℕ) → c < 268 → get_or symbol_table (offset_of d + c) 0 ≡ symbol_of d c
unfolding of_offset symbol_table
symbol_at_lem d c h =
    get_d_table 536 (λ i. symbol_of (of_offset (i / 268)) (i % 268)) (offset_of d + c) 0 (omega (arith, offset_below d))
    ∙ ap₂ (λ (e : Disparity) (k : ℕ). symbol_of e k) (side d) (place d)
  where
    side : (d : Disparity) → of_offset ((offset_of d + c) / 268) ≡ d
    side Negative = let q : (offset_of Negative + c) / 268 ≡ 0 = omega arith in rw q
    side Positive = let q : (offset_of Positive + c) / 268 ≡ 1 = omega arith in rw q

    place : (d : Disparity) → (offset_of d + c) % 268 ≡ c
    place Negative = omega arith
    place Positive = omega arith

pub flip_at : (c : ℕ) → c < 268 → get_or flip_table c 0 ≡ cond (flips c) 268 0
unfolding flip_table
flip_at c h = get_d_table 268 (λ c. cond (flips c) 268 0) c 0 h

-- an exclusive or with a character's turn gives the offset of the disparity after it
pub after_at : (d : Disparity) (c : ℕ) → c < 268 → bit_xor (offset_of d) (get_or flip_table c 0) ≡ offset_of (after_of d c)
after_at d c h = ap (bit_xor (offset_of d)) (flip_at c h) ∙ flipped d (flips c) ∙ ap offset_of (sym (flips_both d c h))
  where
    flipped : (d : Disparity) (t : Bool) → bit_xor (offset_of d) (cond t 268 0) ≡ offset_of (flipped_if t d)
    flipped Negative true = refl
    flipped Negative false = refl
    flipped Positive true = refl
    flipped Positive false = refl
