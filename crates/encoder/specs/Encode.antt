-- The result of encoding.
-- Assumes nothing.
use Rattle.std.specs.Prelude.{ℕ}
use Rattle.symbol.specs.declared.disparity.Disparity.{Disparity}
use Rattle.symbol.specs.Code.{symbol_of, after_of}
use Rattle.encoder.specs.declared.encode.Encoded.{Encoded}

-- the symbol of character c, where the disparity before it is d, and the disparity after it
abbrev pub encoded : Disparity → ℕ → Encoded
encoded d c = record { symbol = symbol_of d c; after = after_of d c }
