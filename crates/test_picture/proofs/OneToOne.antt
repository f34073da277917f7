-- The paper's values tell the answers apart.
-- Assumes nothing.
use mathlib.Core.Path.{◌≡◌, refl}
use mathlib.Core.Bool.{cond}
use lib.Dec.{eqb}
use Rattle.std.specs.Prelude.{Result, Ok, Err}
use Rattle.ground.specs.Answer.{Answer, refused, given}
use Rattle.ground.specs.Inside.Answer.{Injective}
use Rattle.ground.proofs.Answers.{told_again}
use Rattle.test_picture.specs.declared.answer.PutError.{PutError}
use Rattle.test_picture.specs.declared.answer.PutError.TheVariants.{UnknownFormat, NoLine, WrongOutput}
use Rattle.test_picture.specs.Putting.{paper_put}

abbrev put_again : Answer (Unit {0}) → Result (Unit {0}) PutError
put_again (refused n place) = Err (cond (eqb n 1) UnknownFormat (cond (eqb n 2) NoLine WrongOutput))
put_again (given done) = Ok done

pub put_one_to_one : Injective paper_put
put_one_to_one = told_again put_again again
  where
    again : (r : Result (Unit {0}) PutError) → put_again (paper_put r) ≡ r
    again (Ok done) = refl
    again (Err UnknownFormat) = refl
    again (Err NoLine) = refl
    again (Err WrongOutput) = refl
