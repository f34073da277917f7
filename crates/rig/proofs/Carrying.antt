-- Which pieces are carried, which calls are refused, and what each leaves in lent memory.
-- Assumes nothing.
use mathlib.Core.Path.{◌≡◌, refl}
use mathlib.Core.Bool.{false, cond}
use Prim.Native.Nat.{ℕ, ◌<◌}
use native.Mathlib.Omega.{arith}
use lib.Dec.{eqb, ltb}
use borrow.Author.Tests.{lt-ltb, le-ltb, eq-eqb, ne_eqb, eqb-true}
use Rattle.std.specs.Prelude.{Result, Ok, Err}
use Rattle.ground.specs.Answer.{Answer, refused, given}
use Rattle.ground.specs.Inside.Answer.{Injective}
use Rattle.ground.proofs.Answers.{told_again}
use Rattle.ground.proofs.Cases.{on_test}
use Rattle.symbol.specs.declared.disparity.Disparity.{Disparity}
use Rattle.rig.specs.declared.carry.CarryError.{CarryError}
use Rattle.rig.specs.declared.carry.CarryError.TheVariants.{NoPiece, WrongOutput}
use Rattle.rig.specs.Frame.{line_of_piece}
use Rattle.rig.specs.Piece.{paper_carried, carry_of}
use Rattle.rig.specs.Sending.{after_from}

-- ---- the answers are told apart by their numbers

abbrev carried_again : Answer Disparity → Result Disparity CarryError
carried_again (refused number place) = Err (cond (eqb number 2) NoPiece WrongOutput)
carried_again (given d) = Ok d

pub carried_one_to_one : Injective paper_carried
carried_one_to_one = told_again carried_again again
  where
    again : (r : Result Disparity CarryError) → carried_again (paper_carried r) ≡ r
    again (Ok d) = refl
    again (Err NoPiece) = refl
    again (Err WrongOutput) = refl

-- ---- the refusals in the order tried

module _ (piece : ℕ) (d : Disparity) (heard picture : ℕ) where
  pub carry_meets_2 : (piece < 225 → ⊥) → carry_of piece d heard picture ≡ refused 2 0
  carry_meets_2 x = let t : ltb piece 225 ≡ false = le-ltb piece 225 (omega (arith, x)) in simp t

  module _ (there : piece < 225) where
    pub carry_meets_4 : (heard ≡ 5 → picture ≡ 38400 → ⊥) → carry_of piece d heard picture ≡ refused 4 0
    carry_meets_4 x =
        on_test (eqb heard 5)
        (λ t.
        let other : picture ≡ 38400 → ⊥ = x (eqb-true heard 5 t) in
        simp (lt-ltb piece 225 there, t, ne_eqb picture 38400 other))
        (λ t. simp (lt-ltb piece 225 there, t))

    pub carries : heard ≡ 5 → picture ≡ 38400 → carry_of piece d heard picture ≡ given (after_from d (line_of_piece piece 0) 5)
    carries p q = simp (lt-ltb piece 225 there, eq-eqb heard 5 p, eq-eqb picture 38400 q)
