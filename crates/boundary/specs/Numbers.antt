-- Numbers and structs as callers from C give them, and the number of an answer. The paper's definitions take any number, so they get what
-- is given, in full.
-- Assumes nothing.
use Rattle.std.specs.Prelude.{ℕ, Bool, true, false}
use Rattle.ground.specs.Answer.{Answer, refused, given}
use Rattle.symbol.specs.declared.disparity.Disparity.{Disparity}
use Rattle.symbol.specs.declared.disparity.Disparity.TheVariants.{Negative, Positive}
use Rattle.line.specs.declared.picture.PictureLine.{PictureLine}
use Rattle.line.specs.declared.stream.StreamLine.{StreamLine}
use Rattle.span.specs.Content.{Content}
use Rattle.std.specs.Prelude.{None as NoneNamed, Some as Named}
use Rattle.span.specs.declared.content.ContentBytes.{ContentBytes}
use Rattle.span.specs.declared.format.Format.{Format}
use Rattle.span.specs.Format.{format_from}
use Rattle.boundary.specs.declared.numbers.FormatNumbers.{FormatNumbers}
use Rattle.boundary.specs.declared.numbers.PictureLineNumber.{PictureLineNumber}
use Rattle.boundary.specs.declared.numbers.StreamLineNumber.{StreamLineNumber}

-- the running disparity crosses as a bool, which has no third value: true is positive
abbrev pub disparity_from : Bool → Disparity
disparity_from true = Positive
disparity_from false = Negative

-- a format is its numbers
abbrev pub format_given : FormatNumbers → Format
format_given f = format_from f.number f.depth f.component f.structure f.size

-- a stream line crosses as its number
abbrev pub stream_line_number : StreamLine → StreamLineNumber
stream_line_number l = record { number = l.0 }

-- and so does a picture line
abbrev pub picture_line_number : PictureLine → PictureLineNumber
picture_line_number l = record { number = l.0 }

-- the content bytes, if they are named
abbrev pub content_from : Bool → ContentBytes → Content
content_from true content = Named content
content_from false content = NoneNamed

-- the number of a refusal; 0, which no refusal has, if there is none
abbrev pub number_in : {A : Type 0} → Answer A → ℕ
number_in (refused number place) = number
number_in (given a) = 0
