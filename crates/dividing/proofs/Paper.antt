-- Rows divided and joined, in document 01's own numerals, proved.
-- Assumes nothing.
use mathlib.Core.Path.{◌≡◌, refl}
use mathlib.Core.Bool.{false}
use mathlib.Core.List.{List}
use Prim.Native.Nat.{ℕ}
use lib.Dec.{eqb}
use lib.ListN.{length}
use borrow.Author.Tests.{eq-eqb, ne_eqb, eqb-true}
use Rattle.ground.specs.Written.{upto, table}
use Rattle.ground.proofs.Cases.{on_test}
use Rattle.dividing.specs.Paper.{BothRows, DividingPaper}
use Rattle.dividing.specs.Row.{divided, joined, are_rows}

not_rows : (first second : List ℕ) → (BothRows first second → ⊥) → are_rows first second ≡ false
not_rows first second x =
    on_test (eqb (length first) 1920)
    (λ t. on_test (eqb (length second) 1920) (λ u. absurd (x (eqb-true _ _ t, eqb-true _ _ u))) (λ u. simp (t, u)))
    (λ t. simp t)

pub dividing_paper : DividingPaper
unfolding divided joined table upto
dividing_paper = record {
  even_and_odd = λ a b c d. (refl, refl);
  in_order = λ a b c d. refl;
  split_meets3 = λ row first second x. simp (ne_eqb (length row) 3840 x);
  split_meets4 = λ row first second e x. simp (eq-eqb (length row) 3840 e, not_rows first second x);
  join_meets3 = λ first second row x. simp (not_rows first second x);
  join_meets4 = λ first second row both x.
      simp (eq-eqb (length first) 1920 both.0, eq-eqb (length second) 1920 both.1, ne_eqb (length row) 3840 x);
}
