-- What the encoder's tables hold.
-- Assumes nothing.
use Rattle.std.specs.Prelude.{ℕ, ◌/◌, ◌%◌, cond, List, eqb}
use Rattle.ground.specs.Written.{table}
use Rattle.symbol.specs.declared.disparity.Disparity.{Disparity}
use Rattle.symbol.specs.declared.disparity.Disparity.TheVariants.{Negative, Positive}
use Rattle.symbol.specs.Character.{characters}
use Rattle.symbol.specs.Code.{symbol_of}
use Rattle.symbol.specs.Inside.Code.{flips}

-- where the symbols of a disparity begin
abbrev pub offset_of : Disparity → ℕ
offset_of Negative = 0
offset_of Positive = characters

unfoldable pub of_offset : ℕ → Disparity
of_offset n = cond (eqb n 0) Negative Positive

-- the symbols of all characters at negative disparity, then at positive
unfoldable pub symbol_table : List ℕ
symbol_table = table 536 (λ i. symbol_of (of_offset (i / 268)) (i % 268))

-- 268 for a character that flips the disparity, else 0: the offset after it is the offset before it, exclusive-ored with this
-- (law `after_at`)
unfoldable pub flip_table : List ℕ
flip_table = table 268 (λ c. cond (flips c) 268 0)
