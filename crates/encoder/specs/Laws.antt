-- Laws of the encoder's tables, for anyone who encodes from them; `proofs/Laws` proves each. The characters are numbered below 268.
-- Assumes nothing.
use Rattle.std.specs.Prelude.{ℕ, ◌+◌, ◌<◌, ◌≡◌, get_or}
use Rattle.std.specs.Int.Bits.{bit_xor}
use Rattle.symbol.specs.declared.disparity.Disparity.{Disparity}
use Rattle.symbol.specs.Code.{symbol_of, after_of}
use Rattle.encoder.specs.Inside.Tables.{offset_of, of_offset, symbol_table, flip_table}

pub record EncoderLaws : Type 0 where
  -- from the offset of a disparity on, the table holds the characters' symbols at that disparity
  pub symbol_at : (d : Disparity) (c : ℕ) → c < 268 → get_or symbol_table (offset_of d + c) 0 ≡ symbol_of d c
  -- the exclusive or of the offset and a character's flip entry is the offset of the disparity after it
  pub after_at : (d : Disparity) (c : ℕ) → c < 268 → bit_xor (offset_of d) (get_or flip_table c 0) ≡ offset_of (after_of d c)
  -- a disparity is recovered from its offset
  pub offset_again : (d : Disparity) → of_offset (offset_of d) ≡ d
