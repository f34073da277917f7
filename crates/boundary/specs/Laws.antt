-- What holds of numbers that cross, in words that a caller from C has; `proofs/Laws` proves each.
-- Assumes nothing.
use Rattle.std.specs.Prelude.{ℕ, ◌≡◌, Bool, true, false}
use Rattle.ground.specs.Answer.{refused, given}
use Rattle.symbol.specs.declared.disparity.Disparity.{Disparity}
use Rattle.symbol.specs.declared.disparity.Disparity.TheVariants.{Negative, Positive}
use Rattle.symbol.specs.Disparity.{is_positive}
use Rattle.line.specs.declared.picture.PictureLine.{PictureLine}
use Rattle.line.specs.declared.stream.StreamLine.{StreamLine}
use Rattle.std.specs.Prelude.{None as NoneNamed, Some as Named}
use Rattle.span.specs.declared.content.ContentBytes.{ContentBytes}
use Rattle.boundary.specs.declared.numbers.FormatNumbers.{FormatNumbers}
use Rattle.boundary.specs.Numbers.{content_from, disparity_from, format_given, number_in, picture_line_number, stream_line_number}

-- a disparity as a bool
pub record Says (positive : Bool) (d : Disparity) : Type 0 where
  pub if_negative : d ≡ Negative → positive ≡ false
  pub if_positive : d ≡ Positive → positive ≡ true

pub record BoundaryLaws : Type 1 where
  -- true is positive, false is negative, both ways
  pub true_is_positive : disparity_from true ≡ Positive
  pub false_is_negative : disparity_from false ≡ Negative
  pub back : (d : Disparity) → Says (is_positive d) d
  -- a format is its numbers, each in its place
  pub format_number : (f : FormatNumbers) → (format_given f).number ≡ f.number
  pub format_depth : (f : FormatNumbers) → (format_given f).depth ≡ f.depth
  pub format_component : (f : FormatNumbers) → (format_given f).component ≡ f.component
  pub format_structure : (f : FormatNumbers) → (format_given f).structure ≡ f.structure
  pub format_size : (f : FormatNumbers) → (format_given f).size ≡ f.size
  -- a stream line is its number, and a picture line its own
  pub stream_line : (l : StreamLine) → (stream_line_number l).number ≡ l.0
  pub picture_line : (l : PictureLine) → (picture_line_number l).number ≡ l.0
  -- content bytes that are named are those given, whatever they are; those that are not named are not looked at
  pub named : (content : ContentBytes) → content_from true content ≡ Named content
  pub none_named : (content : ContentBytes) → content_from false content ≡ NoneNamed
  -- a refusal crosses as its number, and 0 is none
  pub refused_number : (A : Type 0) (number place : ℕ) → number_in {A = A} (refused number place) ≡ number
  pub given_zero : {A : Type 0} (a : A) → number_in (given a) ≡ 0
