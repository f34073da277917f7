-- What is written, piece by piece: definitions that only loops and proofs use. The rest is in specs/Pieces.
-- Assumes nothing.
use Rattle.std.specs.Prelude.{ℕ, ◌-◌, List}
use Rattle.line.specs.Stream.{line_after}
use Rattle.span.specs.Span.{span_symbols, span_after, signal_from}
use Rattle.generate.specs.declared.left.Left.{Left}
use Rattle.generate.specs.Generated.{span_on, spans_from, low_first}

-- the bytes of all that is left
unfoldable pub rest_of : Left → List ℕ
rest_of s = low_first (signal_from s.disparity s.format (spans_from s.format s.line.0 s.count))

-- the bytes of the next span, and what is left after it
unfoldable pub span_bytes : Left → List ℕ
span_bytes s = low_first (span_symbols s.disparity s.format (span_on s.format s.line.0))

abbrev pub next_left : Left → Left
next_left s =
    record {
      format = s.format;
      line = record { 0 = line_after s.line.0 };
      disparity = span_after s.disparity s.format (span_on s.format s.line.0);
      count = s.count - 1;
    }
