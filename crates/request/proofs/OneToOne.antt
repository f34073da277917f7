-- The paper's values tell the answers apart.
-- Assumes nothing.
use mathlib.Core.Path.{◌≡◌, refl}
use mathlib.Core.Bool.{cond}
use lib.Dec.{eqb}
use Rattle.ground.specs.Answer.{Answer, refused, given}
use Rattle.ground.specs.Inside.Answer.{Injective}
use Rattle.ground.proofs.Answers.{told_again}
use Rattle.symbol.specs.declared.disparity.Disparity.{Disparity}
use Rattle.std.specs.Prelude.{Result, Ok, Err}
use Rattle.request.specs.declared.sent.SendError.{SendError}
use Rattle.request.specs.declared.sent.SendError.TheVariants.{UnknownFormat, NoLine, WrongInput, WrongOutput, NotAllowed}
use Rattle.request.specs.Send.{paper_sent}

abbrev sent_again : Answer Disparity → Result Disparity SendError
sent_again (refused n place) =
    Err
    (cond (eqb n 1) UnknownFormat
    (cond (eqb n 2) NoLine (cond (eqb n 3) WrongInput (cond (eqb n 4) WrongOutput (NotAllowed place)))))
sent_again (given d) = Ok d

pub sent_one_to_one : Injective paper_sent
sent_one_to_one = told_again sent_again again
  where
    again : (r : Result Disparity SendError) → sent_again (paper_sent r) ≡ r
    again (Ok d) = refl
    again (Err UnknownFormat) = refl
    again (Err NoLine) = refl
    again (Err WrongInput) = refl
    again (Err WrongOutput) = refl
    again (Err (NotAllowed place)) = refl
