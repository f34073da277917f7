-- Rows that are put sample by sample, and what stands in them.
-- Assumes nothing.
use mathlib.Core.Path.{◌≡◌, refl, sym, ap, ◌∙◌}
use mathlib.Core.List.{List, [], ◌∷◌}
use Prim.Native.Nat.{ℕ, ◌+◌, ◌/◌, ◌≤◌, ◌<◌}
use native.Mathlib.Omega.{arith}
use lib.ListN.{length, get_or, set}
use lib.Seq.{sets}
use borrow.Author.Tests.{eq-eqb, ne_eqb}
use Rattle.ground.specs.Written.{upto, table}
use Rattle.ground.proofs.Writing.{sets_whole, sets_upto, length_table, get_d_table, table_same}
use Rattle.span.specs.declared.format.Format.{Format}
use Rattle.test_picture.specs.TestPicture.{test_sample, test_row, code_step, sample_by, row_in_steps, row_at}
use Rattle.test_picture.proofs.Codes.{code_low, code_high}

module _ (f : ℕ → ℕ) (l : List ℕ) where
  pub none_put : l ≡ sets l 0 (table 0 f)
  unfolding table upto
  none_put = refl

  pub one_put : (i v : ℕ) → v ≡ f i → set (sets l 0 (table i f)) i v ≡ sets l 0 (table (i + 1) f)
  unfolding table
  one_put i v e = rw e (sets_upto 1 (λ k. f k ∷ []) (λ m. refl) l 0 i i (omega arith))

  pub all_put : (n : ℕ) → length l ≡ n → sets l 0 (table n f) ≡ table n f
  all_put n e = sets_whole l (table n f) (length_table n f ∙ sym e)

pub length_row : (step line : ℕ) → length (row_in_steps step line) ≡ 3840
unfolding row_in_steps
length_row step line = length_table 3840 (sample_by step line)

-- a row in steps of one code is the row
pub row_of_codes : (line : ℕ) → row_in_steps 1 line ≡ test_row line
unfolding row_in_steps
row_of_codes line = table_same 3840 (sample_by 1 line) (test_sample line) (λ i h. omega arith)

-- the row of a format has samples that may be sent at its depth
module _ (f : Format) (line i : ℕ) (h : i < 3840) where
  at : get_or (row_at f line) i 0 ≡ sample_by (code_step f) line i
  unfolding row_in_steps
  at = get_d_table 3840 (sample_by (code_step f) line) i 0 h

  step_ten : f.depth ≡ 10 → code_step f ≡ 4
  step_ten e = simp (eq-eqb f.depth 10 e) (omega arith)

  step_twelve : f.depth ≡ 12 → code_step f ≡ 1
  step_twelve e = let other : f.depth ≡ 10 → ⊥ = λ ten. omega arith in simp (ne_eqb f.depth 10 other) (omega arith)

  pub row_ten : f.depth ≡ 10 → (4 ≤ get_or (row_at f line) i 0) × (get_or (row_at f line) i 0 ≤ 1019)
  row_ten e =
      let is : get_or (row_at f line) i 0 ≡ test_sample line i / 4 = at ∙ ap (λ (k : ℕ). test_sample line i / k) (step_ten e) in
      (omega (arith, is, code_low line i), omega (arith, is, code_high line i))

  pub row_twelve : f.depth ≡ 12 → (16 ≤ get_or (row_at f line) i 0) × (get_or (row_at f line) i 0 ≤ 4079)
  row_twelve e =
      let is : get_or (row_at f line) i 0 ≡ test_sample line i / 1 = at ∙ ap (λ (k : ℕ). test_sample line i / k) (step_twelve e) in
      (omega (arith, is, code_low line i), omega (arith, is, code_high line i))
