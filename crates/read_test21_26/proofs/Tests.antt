-- Each test at the words where it asks something, and where it asks nothing.
-- Assumes nothing.
use mathlib.Core.Path.{◌≡◌, refl}
use mathlib.Core.Bool.{Bool, true, false, ◌&&◌, beq}
use mathlib.Core.List.{List}
use Prim.Native.Nat.{ℕ, ◌+◌, ◌-◌, ◌≤◌, ◌<◌}
use native.Mathlib.Omega.{arith}
use lib.Dec.{eqb}
use borrow.Author.Tests.{lt-ltb, le-ltb, eq-eqb, ne_eqb, eqb-true}
use Rattle.ground.specs.Search.{is_some}
use Rattle.ground.proofs.Cases.{on_test}
use Rattle.ground.proofs.Ranges.{is_within, not_within}
use Rattle.line.specs.Stream.{v_of}
use Rattle.span.specs.declared.format.Shape.{Shape}
use Rattle.span.specs.Format.{streams}
use Rattle.span.specs.Layout.{picture_start, eav_start, line_start, crcc_start, sav_xyz, eav_xyz}
use Rattle.crcc.specs.declared.sums.Sums.{Sums}
use Rattle.window.specs.Tests.{same, word_of, named, next_line, line_read, holds21, holds22, holds23}
use Rattle.word.specs.Received.{is_timing, v_in}
use Rattle.crcc.specs.Inside.Sums.{sum_in}
use Rattle.window.specs.Words.{word_at}
use Rattle.read_test21_26.specs.Inside.Holds.{crcc_received, holds24_by}

-- two bits compared
pub same_is : (a b : Bool) → beq a b ≡ same a b
same_is true true = refl
same_is true false = refl
same_is false true = refl
same_is false false = refl

module _ (s : ℕ) (word : ℕ → ℕ) (j t : ℕ) where
  -- ---- 21
  pub sav_21 : j < 4 → holds21 s word j t ≡ is_timing false j (word_of s word j t)
  unfolding holds21
  sav_21 h = rw (lt-ltb j picture_start h)

  pub eav_21 : eav_start ≤ j → j < line_start → holds21 s word j t ≡ is_timing true (j - eav_start) (word_of s word j t)
  unfolding holds21
  eav_21 h l =
      let far : picture_start ≤ j = omega arith in
      let last : j ≤ eav_xyz = omega arith in
      rw (le-ltb j picture_start far, is_within eav_start eav_xyz j h last)

  pub else_21 : picture_start ≤ j → (eav_start ≤ j → line_start ≤ j) → holds21 s word j t ≡ true
  unfolding holds21
  else_21 h l = rw (le-ltb j picture_start h, not_within eav_start eav_xyz j (λ a b. omega (arith, l a)))

  -- ---- 22
  pub first_22 : j ≡ line_start → t ≡ 0 → holds22 s word j t ≡ is_some (named s word)
  unfolding holds22
  first_22 e q = rw (is_within line_start (line_start + 1) j (omega arith) (omega arith), eq-eqb j line_start e, eq-eqb t 0 q)

  pub other_22 : line_start ≤ j → j < crcc_start → (j ≡ line_start → t ≡ 0 → ⊥) → holds22 s word j t ≡ eqb (word_of s word j t) (word_of s word j 0)
  unfolding holds22
  other_22 h l x =
      rw (is_within line_start (line_start + 1) j h (omega arith), apart)
    where
      apart : (eqb j line_start && eqb t 0) ≡ false
      apart =
          on_test (eqb j line_start)
          (λ a. rw (a, ne_eqb t 0 (λ q. x (eqb-true j line_start a) q))) (λ a. rw a)

  pub else_22 : (line_start ≤ j → crcc_start ≤ j) → holds22 s word j t ≡ true
  unfolding holds22
  else_22 l = rw (not_within line_start (line_start + 1) j (λ a b. omega (arith, l a)))

  -- ---- 23
  pub sav_23 : j ≡ sav_xyz → holds23 s word j t ≡ same (v_in (word_of s word j t)) (v_of (line_read s word))
  unfolding holds23
  sav_23 e = rw (eq-eqb j sav_xyz e)

  pub eav_23 : j ≡ eav_xyz → holds23 s word j t ≡ same (v_in (word_of s word j t)) (v_of (next_line s word))
  unfolding holds23
  eav_23 e =
      let far : j ≡ sav_xyz → ⊥ = λ q. omega arith in
      rw (ne_eqb j sav_xyz far, eq-eqb j eav_xyz e)

  pub else_23 : (j ≡ sav_xyz → ⊥) → (j ≡ eav_xyz → ⊥) → holds23 s word j t ≡ true
  unfolding holds23
  else_23 x y = rw (ne_eqb j sav_xyz x, ne_eqb j eav_xyz y)

-- ---- 24
module _ (p : Shape) (w : List ℕ) (c : Sums) (j t : ℕ) where
  pub first_24 : j ≡ crcc_start → holds24_by p w c j t ≡ eqb (word_of (streams p) (word_at p w) j t) (crcc_received p w t (sum_in c t)).crcc0
  unfolding holds24_by
  first_24 e = rw (eq-eqb j crcc_start e)

  pub second_24 : j ≡ (crcc_start + 1) → holds24_by p w c j t ≡ eqb (word_of (streams p) (word_at p w) j t) (crcc_received p w t (sum_in c t)).crcc1
  unfolding holds24_by
  second_24 e =
      let far : j ≡ crcc_start → ⊥ = λ q. omega arith in
      rw (ne_eqb j crcc_start far, eq-eqb j (crcc_start + 1) e)

  pub else_24 : (j ≡ crcc_start → ⊥) → (j ≡ (crcc_start + 1) → ⊥) → holds24_by p w c j t ≡ true
  unfolding holds24_by
  else_24 x y = rw (ne_eqb j crcc_start x, ne_eqb j (crcc_start + 1) y)
