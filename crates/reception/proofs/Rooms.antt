-- Where there is room for the summary, and where nothing is put.
-- Assumes nothing.
use mathlib.Core.Path.{◌≡◌, refl}
use mathlib.Core.Bool.{cond}
use mathlib.Core.List.{List}
use Prim.Native.Nat.{ℕ, ◌≤◌, ◌<◌}
use lib.Dec.{eqb}
use lib.ListN.{length}
use borrow.Author.Tests.{eq-eqb, ne_eqb, le-leb, lt-leb}
use Rattle.std.specs.Prelude.{Result, Ok, Err}
use Rattle.ground.specs.Answer.{Answer, refused, given}
use Rattle.ground.specs.Inside.Answer.{Injective}
use Rattle.ground.proofs.Answers.{told_again}
use Rattle.reception.specs.declared.summary.SummaryError.{SummaryError}
use Rattle.reception.specs.declared.summary.SummaryError.TheVariants.{WrongInput, WrongOutput}
use Rattle.reception.specs.Summary.{summary, paper_summarised, summarised_of}

-- the numbers tell the answers apart
abbrev summed_again : Answer ℕ → Result ℕ SummaryError
summed_again (refused number place) = Err (cond (eqb number 3) WrongInput WrongOutput)
summed_again (given n) = Ok n

pub summed_one_to_one : Injective paper_summarised
summed_one_to_one = told_again summed_again again
  where
    again : (r : Result ℕ SummaryError) → summed_again (paper_summarised r) ≡ r
    again (Ok n) = refl
    again (Err WrongInput) = refl
    again (Err WrongOutput) = refl

module _ (heard : List ℕ) (out : ℕ) where
  pub summary_meets_3 : (length heard ≡ 1125 → ⊥) → summarised_of heard out ≡ refused 3 0
  summary_meets_3 x = simp (ne_eqb (length heard) 1125 x)

  module _ (frame : length heard ≡ 1125) where
    pub summary_meets_4 : out < 256 → summarised_of heard out ≡ refused 4 0
    summary_meets_4 h = simp (eq-eqb (length heard) 1125 frame, lt-leb 256 out h)

    pub sums : 256 ≤ out → summarised_of heard out ≡ given (length (summary heard))
    sums h = simp (eq-eqb (length heard) 1125 frame, le-leb 256 out h)
