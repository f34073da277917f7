-- What holds of the answers to C of the calls on pictures: no two answers of the library cross as the same, so the number and the fields
-- determine what was answered. `proofs/Laws` proves each.
-- Assumes nothing.
use Rattle.std.specs.Prelude.{Result}
use Rattle.ground.specs.Inside.Answer.{Injective}
use Rattle.picture.specs.declared.place.Outside.{Outside}
use Rattle.picture.specs.declared.place.Place.{Place}
use Rattle.picture.specs.Place.{paper_placed}
use Rattle.dividing.specs.declared.row.CopyError.{CopyError}
use Rattle.dividing.specs.Row.{paper_copied}
use Rattle.span.specs.declared.blanking.FillError.{FillError}
use Rattle.span.specs.Blanking.{paper_filled}
use Rattle.way_back.specs.declared.back.BackError.{BackError}
use Rattle.way_back.specs.declared.back.ImageLine.{ImageLine}
use Rattle.way_back.specs.Back.{paper_back}
use Rattle.boundary.specs.Numbers.{number_in}
use Rattle.picture_answers.specs.Pictures.{place_answer_of, way_back_answer_of}

pub record PictureAnswersLaws : Type 0 where
  -- the place of a sample
  pub place_told : Injective (λ (r : Result Place Outside). place_answer_of (paper_placed r))
  -- the way back to the picture
  pub way_back_told : Injective (λ (r : Result ImageLine BackError). way_back_answer_of (paper_back r))
  -- dividing a row and joining two, by the number alone
  pub copied_told : Injective (λ (r : Result (Unit {0}) CopyError). number_in (paper_copied r))
  -- a row filled with blanking, by the number alone
  pub filled_told : Injective (λ (r : Result (Unit {0}) FillError). number_in (paper_filled r))
