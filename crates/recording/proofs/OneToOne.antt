-- The paper's number and values tell an answer.
-- Assumes nothing.
use mathlib.Core.Path.{◌≡◌, refl}
use mathlib.Core.Bool.{cond}
use mathlib.Core.Option.{Option, none, some}
use Prim.Native.Nat.{ℕ}
use lib.Dec.{eqb}
use Rattle.ground.specs.Answer.{Answer, refused, given}
use Rattle.ground.specs.Inside.Answer.{Injective}
use Rattle.ground.proofs.Answers.{told_again}
use Rattle.std.specs.Prelude.{Option as Answered, Some, None, Result, Ok, Err}
use Rattle.recording.specs.declared.answer.FindError.{FindError}
use Rattle.recording.specs.declared.answer.FindError.TheVariants.{UnknownFormat, WrongInput, WrongStart}
use Rattle.recording.specs.declared.answer.NextError.{NextError}
use Rattle.recording.specs.declared.answer.NextError.TheVariants.{UnknownFormat as NoFormat, WrongInput as NoInput, WrongOutput, WrongStart as NoStart}
use Rattle.recording.specs.declared.answer.Spanned.{Spanned}
use Rattle.recording.specs.Call.{paper_found, paper_next}

-- the answers out of the paper's values
abbrev found_again : Answer (Option ℕ) → Result (Answered ℕ) FindError
found_again (given (some place)) = Ok (Some place)
found_again (given none) = Ok None
found_again (refused n k) = Err (cond (eqb n 1) UnknownFormat (cond (eqb n 3) WrongInput WrongStart))

abbrev next_again : Answer (Option Spanned) → Result (Answered Spanned) NextError
next_again (given (some s)) = Ok (Some s)
next_again (given none) = Ok None
next_again (refused n k) = Err (cond (eqb n 1) NoFormat (cond (eqb n 3) NoInput (cond (eqb n 4) WrongOutput NoStart)))

pub found_one_to_one : Injective paper_found
found_one_to_one = told_again found_again again
  where
    again : (r : Result (Answered ℕ) FindError) → found_again (paper_found r) ≡ r
    again (Ok (Some place)) = refl
    again (Ok None) = refl
    again (Err UnknownFormat) = refl
    again (Err WrongInput) = refl
    again (Err WrongStart) = refl

pub next_one_to_one : Injective paper_next
next_one_to_one = told_again next_again again
  where
    again : (r : Result (Answered Spanned) NextError) → next_again (paper_next r) ≡ r
    again (Ok (Some s)) = refl
    again (Ok None) = refl
    again (Err NoFormat) = refl
    again (Err NoInput) = refl
    again (Err WrongOutput) = refl
    again (Err NoStart) = refl
