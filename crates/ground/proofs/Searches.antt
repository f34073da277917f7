-- What a search for the lowest number tells, and what it is told by.
-- Assumes nothing.
use mathlib.Core.Path.{◌≡◌, refl, sym, ◌∙◌}
use mathlib.Core.Bool.{Bool, true, false, true≢false}
use mathlib.Core.Logic.{⊎_elim}
use mathlib.Core.Option.{Option, none, some, some-injective}
use Prim.Native.Nat.{ℕ, zero, suc, ◌+◌, ◌≤◌, ◌<◌}
use native.Mathlib.Nat.{zero-add, eq-or-lt_of_le}
use native.Mathlib.Omega.{arith}
use lib.Dec.{ltb}
use borrow.Author.Tests.{ltb-true, ltb-false}
use Rattle.ground.specs.Search.{first_from, first_below}
use Rattle.ground.proofs.Cases.{on_test}

-- k is the lowest number from i on, below b, at which the test holds
pub record Lowest (p : ℕ → Bool) (i b k : ℕ) : Type 0 where
  pub from : i ≤ k
  pub below : k < b
  pub holds : p k ≡ true
  pub least : (j : ℕ) → i ≤ j → j < k → p j ≡ false

-- the test holds nowhere from i on, below b
pub record Nowhere (p : ℕ → Bool) (i b : ℕ) : Type 0 where
  pub never : (j : ℕ) → i ≤ j → j < b → p j ≡ false

module _ (p : ℕ → Bool) where
  -- what is false at i and from suc i on, is so from i on
  more : (i b : ℕ) → p i ≡ false → ((j : ℕ) → suc i ≤ j → j < b → p j ≡ false) → (j : ℕ) → i ≤ j → j < b → p j ≡ false
  more i b e f j h l = ⊎_elim (λ q. rw (← q) e) (λ q. f j q l) (eq-or-lt_of_le h)

  pub hit_from : (n i k : ℕ) → first_from i n p ≡ some k → Lowest p i (i + n) k
  unfolding first_from
  hit_from zero i k e = let z : ◌≡◌ {A = ℕ} 0 1 = cc in absurd (omega arith)
  hit_from (suc n) i k e =
      on_test (p i)
      (λ t.
      let is : i ≡ k = some-injective i k (rw t at e) in
      record { from = omega arith; below = omega arith; holds = rw (← is) t; least = λ j h l. absurd (omega arith) })
      (λ t.
      let r = hit_from n (suc i) k (rw t at e) in
      record { from = omega arith; below = omega arith; holds = r.holds; least = more i k t r.least })

  pub miss_from : (n i : ℕ) → first_from i n p ≡ none → Nowhere p i (i + n)
  unfolding first_from
  miss_from zero i e = record { never = λ j h l. absurd (omega arith) }
  miss_from (suc n) i e =
      on_test (p i)
      (λ t. let z : ◌≡◌ {A = ℕ} 0 1 = cc (rw t at e) in absurd (omega arith))
      (λ t.
      let r = miss_from n (suc i) (rw t at e) in
      record { never = more i (i + suc n) t (λ j h l. r.never j h (omega arith)) })

  pub hit : (n k : ℕ) → first_below n p ≡ some k → Lowest p 0 n k
  unfolding first_below
  hit n k e = rw zero-add at (hit_from n 0 k e)

  pub miss : (n : ℕ) → first_below n p ≡ none → Nowhere p 0 n
  unfolding first_below
  miss n e = rw zero-add at (miss_from n 0 e)

  not_both : (k : ℕ) → p k ≡ true → p k ≡ false → ⊥
  not_both k t f = true≢false (sym t ∙ f)

  -- there is one lowest number
  one_lowest : {i b j k : ℕ} → Lowest p i b j → Lowest p i b k → j ≡ k
  one_lowest {i} {b} {j} {k} x y = on_test (ltb j k) low high
    where
      low : ltb j k ≡ true → j ≡ k
      low t = absurd (not_both j x.holds (y.least j x.from (ltb-true j k t)))

      high : ltb j k ≡ false → j ≡ k
      high t =
          ⊎_elim (λ q. sym q) (λ q. absurd (not_both k y.holds (x.least k y.from q))) (eq-or-lt_of_le (ltb-false j k t))

  -- the search from i on finds the lowest, and nothing where there is none
  pub is_hit_from : (n i k : ℕ) → Lowest p i (i + n) k → first_from i n p ≡ some k
  is_hit_from n i k l = go (first_from i n p) refl
    where
      go : (o : Option ℕ) → first_from i n p ≡ o → first_from i n p ≡ some k
      go none e = absurd (not_both k l.holds ((miss_from n i e).never k l.from l.below))
      go (some j) e = rw (one_lowest l (hit_from n i j e)) e

  pub is_miss_from : (n i : ℕ) → Nowhere p i (i + n) → first_from i n p ≡ none
  is_miss_from n i w = go (first_from i n p) refl
    where
      go : (o : Option ℕ) → first_from i n p ≡ o → first_from i n p ≡ none
      go none e = e
      go (some j) e = let l = hit_from n i j e in absurd (not_both j l.holds (w.never j l.from l.below))

  pub is_hit : (n k : ℕ) → Lowest p 0 n k → first_below n p ≡ some k
  unfolding first_below
  is_hit n k l = is_hit_from n 0 k (rw zero-add l)

  pub is_miss : (n : ℕ) → Nowhere p 0 n → first_below n p ≡ none
  unfolding first_below
  is_miss n w = is_miss_from n 0 (rw zero-add w)

  -- where the test holds at no other number, the search finds the one
  pub is_only : (n k : ℕ) → k < n → p k ≡ true → ((j : ℕ) → j < n → p j ≡ true → j ≡ k) → first_below n p ≡ some k
  is_only n k h t only = go (first_below n p) refl
    where
      go : (o : Option ℕ) → first_below n p ≡ o → first_below n p ≡ some k
      go none e = absurd (not_both k t ((miss n e).never k (omega arith) h))
      go (some j) e = let l = hit n j e in rw (← (only j l.below l.holds)) e
