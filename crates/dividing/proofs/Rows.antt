-- Rows divided and joined: what the loops do in a turn, and which sample stands where.
-- Assumes nothing.
use mathlib.Core.Path.{◌≡◌, refl, sym, ◌∙◌}
use mathlib.Core.List.{List, [], ◌∷◌}
use Prim.Native.Nat.{ℕ, zero, suc, ◌+◌, ◌*◌, ◌<◌}
use native.Mathlib.Numerals.{add-one}
use native.Mathlib.Omega.{arith}
use lib.ListN.{length, get_or, set}
use lib.Seq.{sets}
use Rattle.ground.specs.Written.{upto, table}
use Rattle.ground.proofs.Writing.{sets_whole, sets_upto, length_upto, get_d_upto, length_table, get_d_table}
use Rattle.dividing.specs.Row.{divided, joined}
use Rattle.dividing.specs.Inside.Row.{row_with}

-- what the loops do: nothing yet, then a sample or a pair more
module _ (row : List ℕ) (w : ℕ) where
  pub none_divided : (l : List ℕ) → l ≡ sets l 0 (divided w 0 row)
  unfolding divided table upto
  none_divided l = refl

  pub one_divided : (l : List ℕ) (j : ℕ) → set (sets l 0 (divided w j row)) j (get_or row (2 * j + w) 0) ≡ sets l 0 (divided w (j + 1) row)
  unfolding divided table
  one_divided l j = sets_upto 1 (λ k. get_or row (2 * k + w) 0 ∷ []) (λ m. refl) l 0 j j (omega arith)

  pub length_divided : (n : ℕ) → length (divided w n row) ≡ n
  unfolding divided
  length_divided n = length_table n (λ j. get_or row (2 * j + w) 0)

  pub all_divided : (l : List ℕ) (n : ℕ) → length l ≡ n → sets l 0 (divided w n row) ≡ divided w n row
  all_divided l n e = sets_whole l (divided w n row) (length_divided n ∙ sym e)

  pub sample_divided : (n j : ℕ) → j < n → get_or (divided w n row) j 0 ≡ get_or row (2 * j + w) 0
  unfolding divided
  sample_divided n j p = get_d_table n (λ k. get_or row (2 * k + w) 0) j 0 p

module _ (first second : List ℕ) where
  abbrev pair : ℕ → List ℕ
  pair j = get_or first j 0 ∷ get_or second j 0 ∷ []

  pub none_joined : (l : List ℕ) → l ≡ sets l 0 (joined 0 first second)
  unfolding joined upto
  none_joined l = refl

  pub pair_joined :
      (l : List ℕ) (j : ℕ)
      → set (set (sets l 0 (joined j first second)) (2 * j) (get_or first j 0)) (2 * j + 1) (get_or second j 0)
      ≡ sets l 0 (joined (j + 1) first second)
  unfolding joined
  pair_joined l j = rw add-one (sets_upto 2 pair (λ m. refl) l 0 (2 * j) j (omega arith))

  pub length_joined : (n : ℕ) → length (joined n first second) ≡ 2 * n
  unfolding joined
  length_joined n = length_upto 2 pair (λ m. refl) n

  pub all_joined : (l : List ℕ) (n : ℕ) → length l ≡ 2 * n → sets l 0 (joined n first second) ≡ joined n first second
  all_joined l n e = sets_whole l (joined n first second) (length_joined n ∙ sym e)

  of_pair : (j w : ℕ) → w < 2 → get_or (pair j) w 0 ≡ get_or (row_with w first second) j 0
  of_pair j zero q = refl
  of_pair j (suc zero) q = refl
  of_pair j (suc (suc w)) q = absurd (omega arith)

  pub sample_joined : (n j w : ℕ) → j < n → w < 2 → get_or (joined n first second) (2 * j + w) 0 ≡ get_or (row_with w first second) j 0
  unfolding joined
  sample_joined n j w p q = get_d_upto 2 pair (λ m. refl) n j w 0 p q ∙ of_pair j w q
