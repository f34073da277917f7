-- What is asked of the test generator: six bytes, and the refusals in the order of document 01's table.
-- Assumes nothing.
use Rattle.std.specs.Prelude.{ℕ, ◌*◌, Bool, cond, ◌&&◌, List, [], ◌∷◌, leb, ltb, length, get_or}
use Rattle.ground.specs.Answer.{Answer, Row, unless, checked}
use Rattle.line.specs.Stream.{is_line}
use Rattle.span.specs.declared.format.Format.{Format}
use Rattle.span.specs.Format.{plain_format, is_known, shape_of, symbols_in}
use Rattle.recording.specs.Recording.{limit}
use Rattle.text.specs.Words.{word_in_bytes}
use Rattle.generate.specs.declared.parameters.Parameters.{Parameters}

-- a format byte and a depth byte; a missing byte is not a known one
abbrev pub wanted_format : List ℕ → Format
wanted_format input = plain_format (get_or input 0 0) (get_or input 1 0)

-- the first line, two bytes, low byte first; if either is missing it is 0, which is not a line
abbrev pub first_line_in : List ℕ → ℕ
first_line_in input = cond (ltb (length input) 4) 0 (word_in_bytes input 1)

-- the number of spans, two bytes, low byte first
abbrev pub count_in : List ℕ → ℕ
count_in input = word_in_bytes input 2

-- whether all six are there; what follows them is ignored
abbrev pub is_whole : List ℕ → Bool
is_whole input = leb 6 (length input)

-- whether the finder takes a recording of that many spans
abbrev pub is_short : List ℕ → Bool
is_short input = leb (count_in input * symbols_in (shape_of (wanted_format input))) limit

-- 1 for an unknown format or depth, 2 if the first line is not 1 to 1125, 3 if bytes are missing or the recording would be too long
abbrev pub refusals_in : List ℕ → List Row
refusals_in input =
    unless 1 (is_known (wanted_format input)) ∷ unless 2 (is_line (first_line_in input)) ∷ unless 3 (is_whole input && is_short input) ∷ []

abbrev pub parameters_in : List ℕ → Parameters
parameters_in input = record { format = wanted_format input; first = record { 0 = first_line_in input }; count = count_in input }

abbrev pub wanted_of : List ℕ → Answer Parameters
wanted_of input = checked (refusals_in input) (parameters_in input)
