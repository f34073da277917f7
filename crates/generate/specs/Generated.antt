-- What the test generator writes: to standard output a recording as the program that lists spans reads it (document 01, "Values to hold
-- against it"), or to standard error a refusal.
-- Assumes nothing.
use Rattle.std.specs.Prelude.{ℕ, zero, suc, ◌/◌, ◌%◌, List, [], ◌∷◌, ◌++◌, take, None}
use Rattle.ground.specs.Answer.{Answer, refused, given}
use Rattle.line.specs.Stream.{line_after}
use Rattle.span.specs.declared.format.Format.{Format}
use Rattle.span.specs.Span.{signal}
use Rattle.span.specs.Stream.{Request}
use Rattle.request.specs.Send.{request}
use Rattle.test_picture.specs.TestPicture.{test_samples}
use Rattle.text.specs.Number.{decimal}
use Rattle.text.specs.Put.{space, newline}
use Rattle.generate.specs.declared.parameters.Parameters.{Parameters}
use Rattle.generate.specs.Parameters.{wanted_of}

-- the span of a stream line: the test picture, no content bytes named
abbrev pub span_on : Format → ℕ → Request
span_on f n = request n None (test_samples f n)

-- those of consecutive lines, from line n on
unfoldable pub spans_from : Format → ℕ → ℕ → List Request
spans_from f n zero = []
spans_from f n (suc count) = span_on f n ∷ spans_from f (line_after n) count

-- symbols as bytes, two for each, low byte first
unfoldable pub low_first : List ℕ → List ℕ
low_first [] = []
low_first (symbol ∷ more) = symbol % 256 ∷ symbol / 256 ∷ low_first more

-- "refused", the number of the refusal, newline
abbrev pub refused_with : ℕ → List ℕ
refused_with number = 114 ∷ 101 ∷ 102 ∷ 117 ∷ 115 ∷ 101 ∷ 100 ∷ space ∷ (decimal number ++ (newline ∷ []))

-- the format and depth bytes as given, and the signal of the spans: the first from the fresh disparity, which is handed on; nothing where
-- it is refused
abbrev pub written : List ℕ → Answer Parameters → List ℕ
written input (refused number place) = []
written input (given p) = take 2 input ++ low_first (signal p.format (spans_from p.format p.first.0 p.count))

-- what is written to standard output for an input
abbrev pub generated : List ℕ → List ℕ
generated input = written input (wanted_of input)

-- and to standard error: the refusal, if there is one
abbrev pub refusal_by : Answer Parameters → List ℕ
refusal_by (refused number place) = refused_with number
refusal_by (given p) = []

abbrev pub refusal : List ℕ → List ℕ
refusal input = refusal_by (wanted_of input)
