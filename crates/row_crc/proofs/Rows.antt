-- The rows of two streams and of four, cut out of a picture's rows.
-- Assumes nothing.
use Rattle.std.specs.Prelude.{Some, None, IsSome, is_some}
use mathlib.Core.Path.{◌≡◌, refl, ap, ◌∙◌}
use mathlib.Core.List.{List}
use Prim.Native.Nat.{ℕ, ◌+◌, ◌*◌, ◌≤◌}
use native.Mathlib.Omega.{arith}
use lib.ListN.{length, get_or, take, drop}
use lib.Seq.{get_or-take, get_or-drop}
use lib.Dec.{eqb}
use borrow.Author.Tests.{eq-eqb, ne_eqb, eqb-false}
use Rattle.ground.proofs.Cases.{on_test}
use Rattle.ground.proofs.Writing.{table_same}
use Rattle.crcc.specs.Crcc.{crc}
use Rattle.crcc.specs.declared.sums.Sums.{Sums}
use Rattle.row_crc.specs.declared.fold.Two.{Two}
use Rattle.row_crc.specs.Inside.Sums.{words_in, summed_of, sums_in}

module _ (rows : List ℕ) where
  cut : (from : ℕ) → crc 0 (words_in (take 1920 (drop from rows)) 0) ≡ crc 0 (words_in rows from)
  cut from =
      ap (crc 0)
      (table_same 1920 (λ i. get_or (take 1920 (drop from rows)) (0 + i) 0) (λ i. get_or rows (from + i) 0)
      (λ i h.
      let here : 0 + i ≡ i = omega arith in
      ap (λ (k : ℕ). get_or (take 1920 (drop from rows)) k 0) here ∙ get_or-take 1920 (drop from rows) i 0 h ∙ get_or-drop from rows i 0))

  -- the CRCs of two rows from a place on
  abbrev pub cut_two : ℕ → ℕ → Two
  cut_two a b = record { a = crc 0 (words_in (take 1920 (drop a rows)) 0); b = crc 0 (words_in (take 1920 (drop b rows)) 0) }

  pub two_rows : {low : Two} → length rows ≡ 3840 → low ≡ cut_two 0 1920
      → Some (record { first = low.a; second = low.b; third = 0; fourth = 0 }) ≡ summed_of rows
  unfolding summed_of
  two_rows long e = rw (e, eq-eqb (length rows) 3840 long, cut 0, cut 1920) refl

  pub four_rows : {low high : Two} → (length rows ≡ 3840 → ⊥) → length rows ≡ 7680 → low ≡ cut_two 0 1920 → high ≡ cut_two 3840 5760
      → Some (record { first = low.a; second = low.b; third = high.a; fourth = high.b }) ≡ summed_of rows
  unfolding summed_of
  four_rows n long e f =
      rw (e, f, ne_eqb (length rows) 3840 n, eq-eqb (length rows) 7680 long, cut 0, cut 1920, cut 3840, cut 5760) refl

  pub no_rows : (length rows ≡ 3840 → ⊥) → (length rows ≡ 7680 → ⊥) → None ≡ summed_of rows
  unfolding summed_of
  no_rows n m = rw (ne_eqb (length rows) 3840 n, ne_eqb (length rows) 7680 m) refl

-- the rows of one pair of streams, or of two pairs, have sums: no caller with such rows is told another length
module _ (rows : List ℕ) (pairs : ℕ) (some : 1 ≤ pairs) (few : pairs ≤ 2) where
  has_sums : length rows ≡ 3840 * pairs → summed_of rows ≡ Some (sums_in rows)
  unfolding summed_of
  has_sums long =
      on_test (eqb (length rows) 3840) (λ t. rw t)
      (λ t.
      let four : length rows ≡ 7680 = omega (arith, eqb-false (length rows) 3840 t) in
      rw (t, eq-eqb (length rows) 7680 four))

  pub some_sums : length rows ≡ 3840 * pairs → IsSome (summed_of rows)
  some_sums long = ap is_some (has_sums long)

  pub are_sums : {c : Sums} → summed_of rows ≡ Some c → length rows ≡ 3840 * pairs → c ≡ sums_in rows
  are_sums e long = let h = has_sums long in cc

  pub no_other : {A : Type 0} → summed_of rows ≡ None → length rows ≡ 3840 * pairs → A
  no_other e long =
      let h = has_sums long in
      let z : ◌≡◌ {A = ℕ} 0 1 = cc in
      absurd (omega arith)
