-- What holds of the answers of the calls on pictures to C, proved: each field cites the law that says it.
-- Assumes nothing.
use Rattle.picture_answers.specs.Laws.{PictureAnswersLaws}
use Rattle.picture_answers.proofs.Told.{place_told, way_back_told, copied_told, filled_told}

pub picture_answers_laws : PictureAnswersLaws
picture_answers_laws = record { place_told = place_told; way_back_told = way_back_told; copied_told = copied_told; filled_told = filled_told }
