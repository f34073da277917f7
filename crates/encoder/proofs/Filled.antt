-- What the encoder's tables are filled with.
-- Assumes nothing.
use mathlib.Core.Path.{◌≡◌, refl}
use mathlib.Core.Bool.{cond}
use mathlib.Core.List.{List}
use Prim.Native.Nat.{ℕ, ◌/◌, ◌%◌}
use lib.ListN.{length, replicate}
use Rattle.ground.specs.Written.{upto, table}
use Rattle.ground.proofs.Writing.{length_table, tested_table}
use Rattle.symbol.specs.declared.disparity.Disparity.TheVariants.{Negative, Positive}
use Rattle.symbol.specs.Blocks.{six_bits, four_bits, four_bits_special}
use Rattle.symbol.specs.Code.{symbol_of, after_of}
use Rattle.symbol.specs.Inside.Code.{flips}
use Rattle.encoder.specs.Inside.Filling.{row_of, characters_put, symbols_put}
use Rattle.block.specs.Inside.Parts.{low_bits, high_bits, six_masks, four_flips}
use Rattle.encoder.specs.Inside.Tables.{of_offset, symbol_table, flip_table}

-- a row has 32 entries
pub length_row : (low masks : List ℕ) (same other : ℕ) → length (row_of low masks same other) ≡ 32
unfolding row_of
length_row low masks same other = length_table 32 _

-- What the tables are filled with is what they have to hold: antt computes it, and the test of every entry.
pub symbols_filled :
    let masks = six_masks (six_bits Negative) in
    let negative =
    symbols_put Negative (low_bits (six_bits Negative)) masks (high_bits (four_bits Negative)) (high_bits (four_bits Positive))
    (high_bits (four_bits_special Positive)) (replicate 536 0) 0 in
    symbols_put Positive (low_bits (six_bits Positive)) masks (high_bits (four_bits Positive)) (high_bits (four_bits Negative))
    (high_bits (four_bits_special Negative)) negative 268
    ≡ symbol_table
unfolding symbols_put low_bits high_bits six_masks six_bits four_bits four_bits_special symbol_table symbol_of of_offset table upto
symbols_filled = tested_table 536 (λ i. symbol_of (of_offset (i / 268)) (i % 268)) _ refl refl

pub flips_filled :
    characters_put (replicate 32 0) (six_masks (six_bits Negative)) (four_flips 0 (four_bits Negative)) (four_flips 268 (four_bits Negative)) 0
    (four_flips 268 (four_bits_special Negative)) (replicate 268 0) 0
    ≡ flip_table
unfolding characters_put six_masks four_flips six_bits four_bits four_bits_special flip_table flips after_of table upto
flips_filled = tested_table 268 (λ c. cond (flips c) 268 0) _ refl refl
