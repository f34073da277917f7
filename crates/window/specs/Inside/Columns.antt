-- The picture words of a window stream by stream, and the CRC of each stream over them.
-- Assumes nothing.
use Rattle.std.specs.Prelude.{ℕ, cond, List, eqb}
use Rattle.span.specs.declared.format.Shape.{Shape}
use Rattle.span.specs.Format.{streams}
use Rattle.span.specs.Layout.{picture_start}
use Rattle.crcc.specs.Crcc.{crc}
use Rattle.window.specs.Tests.{column}
use Rattle.window.specs.Words.{word_at}
use Rattle.crcc.specs.declared.sums.Sums.{Sums}

-- words first to first + count - 1 of stream t
abbrev pub column_of : Shape → List ℕ → ℕ → ℕ → ℕ → List ℕ
column_of p w first count t = column (streams p) (word_at p w) first count t

-- the CRC of each stream over the picture; 0 for a stream that is not there
abbrev pub sums_of : Shape → List ℕ → Sums
sums_of p w =
    record {
      first = crc 0 (column_of p w picture_start 1920 0);
      second = crc 0 (column_of p w picture_start 1920 1);
      third = cond (eqb p.stream_pairs 1) 0 (crc 0 (column_of p w picture_start 1920 2));
      fourth = cond (eqb p.stream_pairs 1) 0 (crc 0 (column_of p w picture_start 1920 3));
    }
