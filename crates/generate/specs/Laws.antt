-- What holds of the test generator, for anyone who reads what it writes; `proofs/Laws` proves each.
-- Assumes nothing.
use Rattle.std.specs.Prelude.{ℕ, ◌*◌, ◌≤◌, ◌<◌, ◌≡◌, true, false, List, [], ◌++◌, length, take}
use Rattle.ground.specs.Answer.{refused, given}
use Rattle.line.specs.Stream.{is_line}
use Rattle.symbol.specs.declared.disparity.Disparity.{Disparity}
use Rattle.span.specs.declared.format.Format.{Format}
use Rattle.span.specs.Format.{is_known, shape_of, symbols_in}
use Rattle.span.specs.Span.{signal_from}
use Rattle.recording.specs.Recording.{limit}
use Rattle.text.specs.Words.{words_in_bytes}
use Rattle.generate.specs.declared.left.Left.{Left}
use Rattle.generate.specs.Generated.{spans_from, low_first, generated, refusal}
use Rattle.generate.specs.Parameters.{wanted_format, first_line_in, count_in, parameters_in, wanted_of}
use Rattle.generate.specs.Pieces.{file_start, left_of}
use Rattle.generate.specs.Inside.Pieces.{rest_of, span_bytes, next_left}

pub record GenerateLaws : Type 0 where
  -- an unknown format or depth meets 1, a first line that is not 1 to 1125 meets 2, a missing byte or a recording too long for the finder
  -- meets 3; anything else asked for is written
  pub meets1 : (input : List ℕ) → is_known (wanted_format input) ≡ false → wanted_of input ≡ refused 1 0
  pub meets2 : (input : List ℕ) → is_known (wanted_format input) ≡ true → is_line (first_line_in input) ≡ false → wanted_of input ≡ refused 2 0
  pub meets3 :
      (input : List ℕ)
      → is_known (wanted_format input) ≡ true
      → is_line (first_line_in input) ≡ true
      → length input < 6
      → wanted_of input ≡ refused 3 0
  pub too_long :
      (input : List ℕ)
      → is_known (wanted_format input) ≡ true
      → is_line (first_line_in input) ≡ true
      → 6 ≤ length input
      → limit < count_in input * symbols_in (shape_of (wanted_format input))
      → wanted_of input ≡ refused 3 0
  pub is_given :
      (input : List ℕ)
      → is_known (wanted_format input) ≡ true
      → is_line (first_line_in input) ≡ true
      → 6 ≤ length input
      → count_in input * symbols_in (shape_of (wanted_format input)) ≤ limit
      → wanted_of input ≡ given (parameters_in input)
  -- what follows the six bytes is ignored
  pub six_count : (input : List ℕ) → generated (take 6 input) ≡ generated input
  pub six_refuse : (input : List ℕ) → refusal (take 6 input) ≡ refusal input
  -- the words read back from the bytes of symbols are the symbols (document 01, "Values to hold against it": low byte first)
  pub read_again : (l : List ℕ) → words_in_bytes (length l) (low_first l) ≡ l
  -- n spans have n times the symbols of one
  pub signal_long :
      (d : Disparity) (f : Format) (n count : ℕ)
      → 1 ≤ (shape_of f).stream_pairs
      → length (signal_from d f (spans_from f n count)) ≡ count * symbols_in (shape_of f)
  -- the program writes in pieces: the start, and then span after span until none is left; together they are what is to be written
  pub pieces : (input : List ℕ) → generated input ≡ file_start input ++ rest_of (left_of input)
  pub next_piece : (s : Left) → 0 < s.count → rest_of s ≡ span_bytes s ++ rest_of (next_left s)
  pub none_left : (s : Left) → s.count ≡ 0 → rest_of s ≡ []
