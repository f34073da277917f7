-- The paper's number and values tell the answers of the lengths call apart.
-- Assumes nothing.
use mathlib.Core.Path.{◌≡◌, refl}
use Rattle.ground.specs.Answer.{Answer, refused, given}
use Rattle.ground.specs.Inside.Answer.{Injective}
use Rattle.ground.proofs.Answers.{told_again}
use Rattle.std.specs.Prelude.{Result, Ok, Err}
use Rattle.span.specs.declared.format.UnknownFormat.{UnknownFormat}
use Rattle.span.specs.declared.length.SpanLengths.{SpanLengths}
use Rattle.span.specs.Length.{paper_lengths}

abbrev lengths_again : Answer SpanLengths → Result SpanLengths UnknownFormat
lengths_again (refused number place) = Err (record {})
lengths_again (given l) = Ok l

pub lengths_one_to_one : Injective paper_lengths
lengths_one_to_one = told_again lengths_again again
  where
    again : (l : Result SpanLengths UnknownFormat) → lengths_again (paper_lengths l) ≡ l
    again (Ok l) = refl
    again (Err e) = refl
