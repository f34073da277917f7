-- Which rows are divided and joined, in the paper's own numbers, and which are refused.
-- Assumes nothing.
use mathlib.Core.Path.{◌≡◌}
use mathlib.Core.Bool.{true, false}
use mathlib.Core.List.{List}
use Prim.Native.Nat.{ℕ}
use lib.Dec.{eqb}
use lib.ListN.{length}
use borrow.Author.Tests.{eqb-true, eq-eqb, ne_eqb}
use Rattle.ground.specs.Answer.{refused, given}
use Rattle.ground.proofs.Cases.{on_test}
use Rattle.dividing.specs.Row.{is_row, are_rows, split_of, join_of}

module _ (row : List ℕ) where
  row_is : length row ≡ 3840 → is_row row ≡ true
  row_is e = eq-eqb (length row) 3840 e

  no_row : (length row ≡ 3840 → ⊥) → is_row row ≡ false
  no_row x = ne_eqb (length row) 3840 x

module _ (first second : List ℕ) where
  rows_are : length first ≡ 1920 → length second ≡ 1920 → are_rows first second ≡ true
  rows_are p q = simp (eq-eqb (length first) 1920 p, eq-eqb (length second) 1920 q)

  no_rows : (length first ≡ 1920 → length second ≡ 1920 → ⊥) → are_rows first second ≡ false
  no_rows x =
      on_test (eqb (length first) 1920)
      (λ t.
      let other : length second ≡ 1920 → ⊥ = x (eqb-true (length first) 1920 t) in
      simp (t, ne_eqb (length second) 1920 other))
      (λ t. simp t)

module _ (row first second : List ℕ) where
  pub splits : length row ≡ 3840 → length first ≡ 1920 → length second ≡ 1920 → split_of row first second ≡ given tt
  splits e p q = simp (row_is row e, rows_are first second p q)

  pub split_meets_3 : (length row ≡ 3840 → ⊥) → split_of row first second ≡ refused 3 0
  split_meets_3 x = simp (no_row row x)

  pub split_meets_4 :
      length row ≡ 3840 → (length first ≡ 1920 → length second ≡ 1920 → ⊥) → split_of row first second ≡ refused 4 0
  split_meets_4 e x = simp (row_is row e, no_rows first second x)

  pub joins : length first ≡ 1920 → length second ≡ 1920 → length row ≡ 3840 → join_of first second row ≡ given tt
  joins p q e = simp (row_is row e, rows_are first second p q)

  pub join_meets_3 : (length first ≡ 1920 → length second ≡ 1920 → ⊥) → join_of first second row ≡ refused 3 0
  join_meets_3 x = simp (no_rows first second x)

  pub join_meets_4 :
      length first ≡ 1920 → length second ≡ 1920 → (length row ≡ 3840 → ⊥) → join_of first second row ≡ refused 4 0
  join_meets_4 p q x = simp (rows_are first second p q, no_row row x)
