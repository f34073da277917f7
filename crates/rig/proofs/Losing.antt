-- Which lines are lost, by the ends of the knock and of their spans.
-- Assumes nothing.
use mathlib.Core.Path.{◌≡◌, sym, ap, ◌∙◌}
use mathlib.Core.Bool.{true, false, true≢false}
use Prim.Native.Nat.{ℕ, ◌+◌, ◌-◌, ◌*◌, ◌≤◌, ◌<◌, max}
use native.Mathlib.Omega.{arith}
use lib.Dec.{leb, ltb}
use borrow.Author.Tests.{leb-true, ltb-true, le-leb, lt-ltb}
use Rattle.ground.specs.Search.{first_from, is_some}
use Rattle.ground.proofs.Cases.{on_test}
use Rattle.ground.proofs.Searches.{miss_from, is_miss_from}
use Rattle.ground.proofs.Tests.{both_left, both_right}
use Rattle.delivery.proofs.Finding.{untold}
use Rattle.rig.specs.declared.knock.Knock.{Knock}
use Rattle.rig.specs.Knock.{struck, lost}

module _ (k : Knock) where
  is_struck : (q : ℕ) → k.place ≤ q → q < k.place + k.long → struck k q ≡ true
  is_struck q p l = simp (le-leb k.place q p, lt-ltb q (k.place + k.long) l)

  from_place : (q : ℕ) → struck k q ≡ true → k.place ≤ q
  from_place q t = leb-true k.place q (both_left (leb k.place q) (ltb q (k.place + k.long)) t)

  to_end : (q : ℕ) → struck k q ≡ true → q < k.place + k.long
  to_end q t = ltb-true q (k.place + k.long) (both_right (leb k.place q) (ltb q (k.place + k.long)) t)

  -- line n: its span has the symbols from 19,008 (n - 1) on, and ends before 19,008 n
  module _ (n : ℕ) (low : 1 ≤ n) where
    pub is_lost_where : 1 ≤ k.long → k.place < 19008 * n → 19008 * (n - 1) < k.place + k.long → lost k n ≡ true
    unfolding lost
    is_lost_where some begins ends =
        let q = max k.place (19008 * (n - 1)) in
        on_test (is_some (first_from (19008 * (n - 1)) 19008 (struck k)))
        (λ t. t)
        (λ t.
        let never = (miss_from (struck k) 19008 (19008 * (n - 1)) (untold _ t)).never q (omega arith) (omega arith) in
        absurd (true≢false (sym (is_struck q (omega arith) (omega arith)) ∙ never)))

    pub is_kept_where : (1 ≤ k.long → k.place < 19008 * n → 19008 * (n - 1) < k.place + k.long → ⊥) → lost k n ≡ false
    unfolding lost
    is_kept_where apart =
        let never : (j : ℕ) → 19008 * (n - 1) ≤ j → j < 19008 * (n - 1) + 19008 → struck k j ≡ false =
        λ j h l.
        on_test (struck k j)
        (λ t. absurd (apart (omega (arith, from_place j t, to_end j t)) (omega (arith, from_place j t)) (omega (arith, to_end j t))))
        (λ t. t) in
        ap is_some (is_miss_from (struck k) 19008 (19008 * (n - 1)) (record { never = never }))
