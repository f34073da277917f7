-- What the program that lists spans prints (document 01, "Values to hold against it"), as ASCII codes.
-- Assumes nothing.
use Rattle.std.specs.Prelude.{ℕ, cond, List, [], ◌∷◌, ◌++◌, ltb, length, get_or, drop}
use Rattle.span.specs.declared.format.Format.{Format}
use Rattle.span.specs.Format.{plain_format, is_known}
use Rattle.delivery.specs.Delivery.{Found}
use Rattle.recording.specs.declared.answer.Spanned.{Spanned}
use Rattle.recording.specs.Recording.{Reading, delivery_from}
use Rattle.text.specs.Number.{decimal}
use Rattle.text.specs.Put.{space, newline}
use Rattle.text.specs.Words.{count_of, words_in_bytes}

-- place and line number, decimal, one space between
abbrev pub span_line : ℕ → ℕ → List ℕ
span_line place number = decimal place ++ (space ∷ (decimal number ++ (newline ∷ [])))

-- the line of a span
abbrev pub line_of_span : Spanned → List ℕ
line_of_span s = span_line s.place s.delivery.line.0

-- one line for each span delivered
abbrev pub lines_of : List (Found Reading) → List ℕ
lines_of [] = []
lines_of (e ∷ more) = line_of_span (record { place = e.place; delivery = e.reading.values }) ++ lines_of more

-- "refused 1"
abbrev pub refused_format : List ℕ
refused_format = 114 ∷ 101 ∷ 102 ∷ 117 ∷ 115 ∷ 101 ∷ 100 ∷ 32 ∷ 49 ∷ newline ∷ []

-- the input: one byte of format, one byte of depth
abbrev pub format_in : List ℕ → Format
format_in input = plain_format (get_or input 0 0) (get_or input 1 0)

-- and then symbols, low byte first, at most 32,767 of them; an odd last byte and what follows that many are ignored
abbrev pub most_symbols : ℕ
most_symbols = 32767

abbrev pub recorded_in : List ℕ → List ℕ
recorded_in bytes = words_in_bytes (count_of most_symbols (length bytes)) bytes

-- what is printed: a line for each span delivered; the refusal if the input is shorter than two bytes, or the format or depth unknown
abbrev pub span_listing : List ℕ → List ℕ
span_listing input =
    cond (ltb (length input) 2) refused_format
    (cond (is_known (format_in input)) (lines_of (delivery_from (format_in input) (recorded_in (drop 2 input)) 0)) refused_format)
