-- The answers of the way back are told apart.
-- Assumes nothing.
use mathlib.Core.Path.{◌≡◌, refl}
use mathlib.Core.Bool.{cond}
use lib.Dec.{eqb}
use Rattle.ground.specs.Answer.{Answer, refused, given}
use Rattle.ground.specs.Inside.Answer.{Injective}
use Rattle.ground.proofs.Answers.{told_again}
use Rattle.std.specs.Prelude.{Result, Ok, Err}
use Rattle.way_back.specs.declared.back.BackError.{BackError}
use Rattle.way_back.specs.declared.back.BackError.TheVariants.{UnknownFormat, NoLine}
use Rattle.way_back.specs.declared.back.ImageLine.{ImageLine}
use Rattle.way_back.specs.Back.{paper_back}
use Rattle.way_back.specs.Laws.{WayBackLaws}

abbrev back_again : Answer ImageLine → Result ImageLine BackError
back_again (refused number place) = Err (cond (eqb number 1) UnknownFormat NoLine)
back_again (given x) = Ok x

pub back_one_to_one : Injective paper_back
back_one_to_one = told_again back_again again
  where
    again : (r : Result ImageLine BackError) → back_again (paper_back r) ≡ r
    again (Ok x) = refl
    again (Err UnknownFormat) = refl
    again (Err NoLine) = refl

pub way_back_laws : WayBackLaws
way_back_laws = record { back_told = back_one_to_one }
