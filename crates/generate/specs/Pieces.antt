-- What is written, piece by piece: the start, and then what is left, span by span. That the pieces make up the whole is the law `pieces`.
-- Assumes nothing.
use Rattle.std.specs.Prelude.{ℕ, zero, suc, ◌<◌, ◌≡◌, true, List, [], take, Result, Ok, Err}
use Rattle.ground.specs.Answer.{Answer, refused, given}
use Rattle.line.specs.Stream.{is_line, line_after}
use Rattle.symbol.specs.declared.disparity.Disparity.{Disparity}
use Rattle.symbol.specs.Disparity.{fresh}
use Rattle.span.specs.declared.format.Format.{Format}
use Rattle.span.specs.Format.{plain_format, is_known}
use Rattle.span.specs.Span.{span_after}
use Rattle.generate.specs.declared.left.Left.{Left}
use Rattle.generate.specs.declared.parameters.Parameters.{Parameters}
use Rattle.generate.specs.Generated.{span_on}
use Rattle.generate.specs.Parameters.{wanted_of}

-- the start: the format and depth bytes, or nothing
abbrev pub start_text : List ℕ → Answer Parameters → List ℕ
start_text input (refused number place) = []
start_text input (given p) = take 2 input

abbrev pub file_start : List ℕ → List ℕ
file_start input = start_text input (wanted_of input)

-- what is left after it: all spans, from the fresh disparity, or nothing
abbrev pub all_of : Parameters → Left
all_of p = record { format = p.format; line = p.first; disparity = fresh; count = p.count }

abbrev pub nothing : Left
nothing = record { format = plain_format 0 0; line = record { 0 = 0 }; disparity = fresh; count = 0 }

abbrev pub left_by : Answer Parameters → Left
left_by (refused number place) = nothing
left_by (given p) = all_of p

abbrev pub left_of : List ℕ → Left
left_of input = left_by (wanted_of input)

-- if a span is left, it may be sent
pub record Ready (s : Left) : Type 0 where
  pub known : 0 < s.count → is_known s.format ≡ true
  pub line : 0 < s.count → is_line s.line.0 ≡ true

-- the disparity after all that is left
unfoldable pub after_spans : Disparity → Format → ℕ → ℕ → Disparity
after_spans d f n zero = d
after_spans d f n (suc count) = after_spans (span_after d f (span_on f n)) f (line_after n) count

abbrev pub after_left : Left → Disparity
after_left s = after_spans s.disparity s.format s.line.0 s.count

-- what the answer says if all of it was written
abbrev pub WrittenTold : {E : Type 0} → Left → Result Disparity E → Type 0
WrittenTold s (Ok after) = after ≡ after_left s
WrittenTold s (Err why) = Unit
