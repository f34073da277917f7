-- Dividing and joining puts each sample back, and it divides as the places say.
-- Assumes nothing.
use mathlib.Core.Path.{◌≡◌, refl, sym, ap, subst, ◌∙◌}
use mathlib.Core.List.{List}
use Prim.Native.Nat.{ℕ, zero, suc, ◌+◌, ◌*◌, ◌/◌, ◌%◌, ◌≤◌, ◌<◌}
use native.Mathlib.Omega.{arith}
use lib.ListN.{length, get_or}
use lib.Seq.{ext_get_or}
use Rattle.ground.specs.Answer.{given}
use Rattle.ground.proofs.Writing.{is_table}
use Rattle.picture.specs.Division.{image_at, image_sample, line_from, sample_from, w}
use Rattle.picture.specs.Place.{placed_of}
use Rattle.dividing.specs.Row.{divided, joined}
use Rattle.picture.proofs.Places.{found}
use Rattle.dividing.proofs.Rows.{sample_divided, length_joined, sample_joined}
use Rattle.picture.proofs.Steps.{sample_back}
use Rattle.dividing.specs.Inside.Row.{row_with}

-- joining what was divided is the row
module _ (n : ℕ) (row : List ℕ) (e : length row ≡ 2 * n) where
  both : List ℕ
  both = joined n (divided 0 n row) (divided 1 n row)

  SameAt : ℕ → Type 0
  SameAt i = get_or both i 0 ≡ get_or row i 0

  of_row : (c : ℕ) → c < 2 → row_with c (divided 0 n row) (divided 1 n row) ≡ divided c n row
  of_row zero q = refl
  of_row (suc zero) q = refl
  of_row (suc (suc c)) q = absurd (omega arith)

  same : (j c : ℕ) → j < n → c < 2 → SameAt (2 * j + c)
  unfolding both SameAt
  same j c p q =
      sample_joined (divided 0 n row) (divided 1 n row) n j c p q
      ∙ ap (λ (l : List ℕ). get_or l j 0) (of_row c q)
      ∙ sample_divided row c n j p

  back : (i : ℕ) → i < 2 * n → SameAt i
  back i p = subst SameAt (omega arith) (same (i / 2) (i % 2) (omega arith) (omega arith))

  pub join_split : joined n (divided 0 n row) (divided 1 n row) ≡ row
  unfolding both SameAt
  join_split =
      let l = length_joined (divided 0 n row) (divided 1 n row) n in
      ext_get_or 0 both row (l ∙ sym e) (λ i p. back i (omega (arith, l)))

-- dividing what was joined is the two rows
pub split_join :
    (n : ℕ) (first second : List ℕ) (c : ℕ)
    → c < 2
    → length (row_with c first second) ≡ n
    → divided c n (joined n first second) ≡ row_with c first second
unfolding divided
split_join n first second c q e =
    sym
    (is_table n (λ j. get_or (joined n first second) (2 * j + c) 0) 0 (row_with c first second) e
    (λ j p. sym (sample_joined first second n j c p q)))

module _ (n : ℕ) (row : List ℕ) where
  -- what stands at sample j of the row that image u gets is the sample whose place is there (`step_again`)
  pub comes_from : (u j : ℕ) → j < n → get_or (divided (w u) n row) j 0 ≡ get_or row (sample_from u j) 0
  unfolding sample_from
  comes_from u j p = sample_divided row (w u) n j p

  -- and every sample of a row goes to its place, whichever line it is
  pub goes_to :
      (line k : ℕ) → k < 2 * n → get_or (divided (w (image_at line k)) n row) (image_sample k) 0 ≡ get_or row k 0
  unfolding image_sample
  goes_to line k p =
      comes_from (image_at line k) (image_sample k) (omega arith) ∙ ap (λ (i : ℕ). get_or row i 0) (sample_back line k)

-- both at once for a 4K picture: what the split puts at sample j of the row of image u, whose line l the row's line is, is the sample that
-- the place call finds there
pub place_agrees :
    (row : List ℕ) (u l j : ℕ)
    → 1 ≤ u
    → u ≤ 4
    → 1 ≤ l
    → l ≤ 1080
    → j ≤ 1919
    → (placed_of (line_from u l) (sample_from u j)
    ≡ given record { image = u; line = record { 0 = l }; stream = record { 0 = l + 41 }; sample = j })
    × (get_or (divided (w u) 1920 row) j 0 ≡ get_or row (sample_from u j) 0)
place_agrees row u l j p q r s t = (found u l j p q r s t, comes_from 1920 row u j (omega arith))
