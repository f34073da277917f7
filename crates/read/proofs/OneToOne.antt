-- The paper's number and values tell an answer.
-- Assumes nothing.
use Rattle.std.specs.Prelude.{Result, Ok, Err}
use mathlib.Core.Path.{◌≡◌, refl}
use mathlib.Core.Bool.{cond}
use Prim.Native.Nat.{ℕ}
use lib.Dec.{eqb}
use Rattle.ground.specs.Answer.{Answer, refused, given}
use Rattle.ground.specs.Inside.Answer.{Injective}
use Rattle.ground.proofs.Answers.{told_again}
use Rattle.window.specs.declared.delivery.Delivery.{Delivery}
use Rattle.read_test21_26.specs.declared.service.Test.{Test}
use Rattle.read_test21_26.specs.declared.service.Test.TheVariants.{Timing, Line, V, Crcc, Sample, Fill}
use Rattle.read_test21_26.specs.Tests.{number_of}
use Rattle.read_test21_26.specs.Inside.Verdict.{test_of}
use Rattle.read.specs.declared.answer.ReadError.{ReadError}
use Rattle.read.specs.declared.answer.ReadError.TheVariants.{UnknownFormat, WrongInput, WrongOutput, WrongSymbol, Fails}
use Rattle.read.specs.Call.{paper_read}

-- the answer out of the paper's values
abbrev read_again : Answer Delivery → Result Delivery ReadError
read_again (given d) = Ok d
read_again (refused n k) =
    cond (eqb n 1) (Err UnknownFormat)
    (cond (eqb n 3) (Err WrongInput)
    (cond (eqb n 4) (Err WrongOutput)
    (cond (eqb n 20) (Err (WrongSymbol k)) (Err (Fails (record { test = test_of n; place = k }))))))

pub read_one_to_one : Injective paper_read
read_one_to_one = told_again read_again again
  where
    fault_again : (t : Test) (k : ℕ) → read_again (refused (number_of t) k) ≡ Err (Fails (record { test = t; place = k }))
    fault_again Timing k = refl
    fault_again Line k = refl
    fault_again V k = refl
    fault_again Crcc k = refl
    fault_again Sample k = refl
    fault_again Fill k = refl

    again : (r : Result Delivery ReadError) → read_again (paper_read r) ≡ r
    again (Ok d) = refl
    again (Err UnknownFormat) = refl
    again (Err WrongInput) = refl
    again (Err WrongOutput) = refl
    again (Err (WrongSymbol k)) = refl
    again (Err (Fails x)) = fault_again x.test x.place
