-- A register run on over words of zeros.
-- Assumes nothing.
use Rattle.std.specs.Prelude.{ℕ, zero, suc}
use Rattle.crcc.specs.Crcc.{crc_word}

-- the register after n words of zeros
unfoldable pub ahead : ℕ → ℕ → ℕ
ahead zero c = c
ahead (suc n) c = ahead n (crc_word c 0)
