-- What the test of a range is, and what it tells.
-- Assumes nothing.
use mathlib.Core.Path.{◌≡◌, sym, ap, ◌∙◌}
use mathlib.Core.Bool.{Bool, true, false, true≢false, ◌&&◌}
use Prim.Native.Nat.{ℕ, ◌≤◌, ◌<◌}
use lib.Dec.{leb}
use borrow.Author.Tests.{le-leb, lt-leb, leb-true}
use Rattle.ground.specs.Range.{within}
use Rattle.ground.proofs.Cases.{on_test}
use Rattle.ground.proofs.Tests.{both_left, both_right}

module _ (low high n : ℕ) where
  pub is_within : low ≤ n → n ≤ high → within low high n ≡ true
  unfolding within
  is_within p q = simp (le-leb low n p, le-leb n high q)

  pub is_below : n < low → within low high n ≡ false
  unfolding within
  is_below p = ap (λ (t : Bool). t && leb n high) (lt-leb low n p)

  pub is_above : low ≤ n → high < n → within low high n ≡ false
  unfolding within
  is_above p q = simp (le-leb low n p, lt-leb n high q)

  pub from_low : within low high n ≡ true → low ≤ n
  unfolding within
  from_low t = leb-true low n (both_left (leb low n) (leb n high) t)

  pub to_high : within low high n ≡ true → n ≤ high
  unfolding within
  to_high t = leb-true n high (both_right (leb low n) (leb n high) t)

  pub not_within : (low ≤ n → n ≤ high → ⊥) → within low high n ≡ false
  not_within x = on_test (within low high n) (λ t. absurd (x (from_low t) (to_high t))) (λ t. t)

  pub outside : within low high n ≡ false → low ≤ n → n ≤ high → ⊥
  outside t p q = true≢false (sym (is_within p q) ∙ t)
