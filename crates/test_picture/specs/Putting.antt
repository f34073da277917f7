-- What the calls that put the test picture answer, and the lent row afterwards.
-- Assumes nothing.
use Rattle.std.specs.Prelude.{ℕ, List, [], ◌∷◌, eqb, length, Result, Ok, Err}
use Rattle.ground.specs.Answer.{Answer, refused, given, unless, checked, unless_refused}
use Rattle.line.specs.Stream.{is_line}
use Rattle.picture.specs.Place.{is_picture_line}
use Rattle.dividing.specs.Row.{is_row}
use Rattle.span.specs.declared.format.Format.{Format}
use Rattle.span.specs.Format.{is_known, shape_of, samples_in}
use Rattle.test_picture.specs.declared.answer.PutError.{PutError}
use Rattle.test_picture.specs.declared.answer.PutError.TheVariants.{UnknownFormat, NoLine, WrongOutput}
use Rattle.test_picture.specs.TestPicture.{test_row, test_samples}

-- the paper's number for each answer
abbrev pub paper_put : Result (Unit {0}) PutError → Answer (Unit {0})
paper_put (Ok done) = given done
paper_put (Err UnknownFormat) = refused 1 0
paper_put (Err NoLine) = refused 2 0
paper_put (Err WrongOutput) = refused 4 0

-- a row of the picture: 2 if it has no such line, then 4 if the row does not have 3840 samples
abbrev pub row_answer : ℕ → List ℕ → Answer (Unit {0})
row_answer line row = checked (unless 2 (is_picture_line line) ∷ unless 4 (is_row row) ∷ []) tt

abbrev pub row_put : ℕ → List ℕ → List ℕ
row_put line row = unless_refused (row_answer line row) row (test_row line)

-- the samples of a stream line: 1 for an unknown format, 2 if there is no such line, then 4 if the row does not have the samples of a span
abbrev pub samples_answer : Format → ℕ → List ℕ → Answer (Unit {0})
samples_answer f n samples =
    checked (unless 1 (is_known f) ∷ unless 2 (is_line n) ∷ unless 4 (eqb (length samples) (samples_in (shape_of f))) ∷ []) tt

abbrev pub samples_put : Format → ℕ → List ℕ → List ℕ
samples_put f n samples = unless_refused (samples_answer f n samples) samples (test_samples f n)
