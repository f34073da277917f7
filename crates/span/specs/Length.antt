-- The lengths of a span, for a caller who sizes buffers.
-- Assumes nothing.
use Rattle.std.specs.Prelude.{[], ◌∷◌, Result, Ok, Err}
use Rattle.ground.specs.Answer.{Answer, refused, given, unless, checked}
use Rattle.span.specs.declared.format.Format.{Format}
use Rattle.span.specs.declared.length.SpanLengths.{SpanLengths}
use Rattle.span.specs.declared.format.UnknownFormat.{UnknownFormat}
use Rattle.span.specs.Format.{is_known, shape_of, samples_in, symbols_in}

-- the paper's number and values for each answer
abbrev pub paper_lengths : Result SpanLengths UnknownFormat → Answer SpanLengths
paper_lengths (Ok l) = given l
paper_lengths (Err e) = refused 1 0

-- the samples and symbols of a span; 1 for an unknown format
abbrev pub lengths_of : Format → Answer SpanLengths
lengths_of f =
    checked (unless 1 (is_known f) ∷ []) (record { samples = samples_in (shape_of f); symbols = symbols_in (shape_of f) })
