-- The paper's values tell the answers apart.
-- Assumes nothing.
use mathlib.Core.Path.{◌≡◌, refl}
use mathlib.Core.Bool.{cond}
use lib.Dec.{eqb}
use Rattle.ground.specs.Answer.{Answer, refused, given}
use Rattle.ground.specs.Inside.Answer.{Injective}
use Rattle.ground.proofs.Answers.{told_again}
use Rattle.std.specs.Prelude.{Result, Ok, Err}
use Rattle.span.specs.declared.blanking.FillError.{FillError}
use Rattle.span.specs.declared.blanking.FillError.TheVariants.{UnknownFormat, WrongOutput}
use Rattle.span.specs.Blanking.{paper_filled}

abbrev filled_again : Answer (Unit {0}) → Result (Unit {0}) FillError
filled_again (refused n place) = Err (cond (eqb n 1) UnknownFormat WrongOutput)
filled_again (given done) = Ok done

pub filled_one_to_one : Injective paper_filled
filled_one_to_one = told_again filled_again again
  where
    again : (r : Result (Unit {0}) FillError) → filled_again (paper_filled r) ≡ r
    again (Ok done) = refl
    again (Err UnknownFormat) = refl
    again (Err WrongOutput) = refl
