-- The paper's values tell the answers apart.
-- Assumes nothing.
use mathlib.Core.Path.{◌≡◌, refl}
use Prim.Native.Nat.{ℕ}
use Rattle.ground.specs.Answer.{Answer, refused, given}
use Rattle.ground.specs.Inside.Answer.{Injective}
use Rattle.ground.proofs.Answers.{told_again}
use Rattle.std.specs.Prelude.{Result, Ok, Err}
use Rattle.crcc.specs.declared.crcc.Above4095.{Above4095}
use Rattle.crcc.specs.Crcc.{paper_crcc}

abbrev crcc_again : Answer ℕ → Result ℕ Above4095
crcc_again (refused n place) = Err (record {})
crcc_again (given c) = Ok c

pub crcc_one_to_one : Injective paper_crcc
crcc_one_to_one = told_again crcc_again again
  where
    again : (r : Result ℕ Above4095) → crcc_again (paper_crcc r) ≡ r
    again (Ok c) = refl
    again (Err e) = refl
