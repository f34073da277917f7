-- Filling a row with blanking samples (document 01, "Sending").
-- Assumes nothing.
use Rattle.std.specs.Prelude.{ℕ, List, [], ◌∷◌, eqb, length, Result, Ok, Err}
use Rattle.ground.specs.Answer.{Answer, refused, given, unless, checked, unless_refused}
use Rattle.ground.specs.Written.{table}
use Rattle.span.specs.declared.format.Format.{Format}
use Rattle.span.specs.Format.{is_known, shape_of, samples_in}
use Rattle.span.specs.Sample.{blank_word}
use Rattle.span.specs.declared.blanking.FillError.{FillError}
use Rattle.span.specs.declared.blanking.FillError.TheVariants.{UnknownFormat, WrongOutput}

-- the paper's number for each answer
abbrev pub paper_filled : Result (Unit {0}) FillError → Answer (Unit {0})
paper_filled (Ok done) = given done
paper_filled (Err UnknownFormat) = refused 1 0
paper_filled (Err WrongOutput) = refused 4 0

-- 1 for an unknown format, then 4 if the row does not have a span's number of samples
abbrev pub fill_of : Format → List ℕ → Answer (Unit {0})
fill_of f row = checked (unless 1 (is_known f) ∷ unless 4 (eqb (length row) (samples_in (shape_of f))) ∷ []) tt

-- the blanking samples of all streams, stream by stream
abbrev pub blank_row : Format → List ℕ
blank_row f = table (samples_in (shape_of f)) (λ _. blank_word f)

-- the row afterwards
abbrev pub filled_row : Format → List ℕ → List ℕ
filled_row f row = unless_refused (fill_of f row) row (blank_row f)
