-- The paper's values tell the answers apart.
-- Assumes nothing.
use mathlib.Core.Path.{◌≡◌, refl}
use mathlib.Core.Bool.{cond}
use lib.Dec.{eqb}
use Rattle.ground.specs.Answer.{Answer, refused, given}
use Rattle.ground.specs.Inside.Answer.{Injective}
use Rattle.ground.proofs.Answers.{told_again}
use Rattle.std.specs.Prelude.{Result, Ok, Err}
use Rattle.dividing.specs.declared.row.CopyError.{CopyError}
use Rattle.dividing.specs.declared.row.CopyError.TheVariants.{WrongInput, WrongOutput}
use Rattle.dividing.specs.Row.{paper_copied}

abbrev copied_again : Answer (Unit {0}) → Result (Unit {0}) CopyError
copied_again (refused n place) = Err (cond (eqb n 3) WrongInput WrongOutput)
copied_again (given done) = Ok done

pub copied_one_to_one : Injective paper_copied
copied_one_to_one = told_again copied_again again
  where
    again : (r : Result (Unit {0}) CopyError) → copied_again (paper_copied r) ≡ r
    again (Ok done) = refl
    again (Err WrongInput) = refl
    again (Err WrongOutput) = refl
