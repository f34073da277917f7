-- What loops over a window are given: the decoding table, a known shape, a window of its length; and its words where no byte is replaced.
-- Assumes nothing.
use Rattle.std.specs.Prelude.{ℕ, ◌+◌, ◌≤◌, ◌≡◌, List, length}
use Rattle.decoder.specs.Inside.Decoder.{decoding_table}
use Rattle.span.specs.declared.format.Shape.{Shape}
use Rattle.span.specs.Format.{symbols_in}
use Rattle.packing.specs.declared.bytes.TwoWords.{TwoWords}
use Rattle.packing.specs.Bytes.{unpacked}
use Rattle.span.specs.Inside.Format.{Small}
use Rattle.window.specs.Scan.{symbol_at, byte_of}

pub record Given (p : Shape) (t w : List ℕ) : Type 0 where
  pub table : t ≡ decoding_table
  pub half : 1 ≤ p.stream_pairs
  pub small : Small p
  pub long : length w ≡ symbols_in p

-- the two words of the three symbols from o on, none of them replaced
unfoldable pub plain_pair : List ℕ → ℕ → TwoWords
plain_pair w o =
    unpacked (record { first = byte_of (symbol_at w o); second = byte_of (symbol_at w (o + 1)); third = byte_of (symbol_at w (o + 2)) })
