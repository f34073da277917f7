-- The check of samples: what one turn of it does, and what it tells of each sample.
-- Assumes nothing.
use mathlib.Core.Path.{◌≡◌, refl, sym, ap, ◌∙◌}
use mathlib.Core.Bool.{Bool, true, false, not, ◌&&◌, and-true, and-false, true≢false}
use mathlib.Core.List.{List, [], ◌∷◌}
use mathlib.Core.Option.{Option, none, some}
use Prim.Native.Nat.{ℕ, zero, suc, ◌+◌, ◌-◌, ◌%◌, ◌≤◌, ◌<◌}
use native.Mathlib.Nat.{le_of_suc-le-suc, not-suc-le-zero}
use native.Mathlib.Omega.{arith}
use lib.Bits.{bit_or, or_zero_r, or_add_and, and_le_l}
use lib.Dec.{eqb}
use lib.ListN.{length, get_or, drop, drop_of_length-le}
use borrow.Author.Tests.{eqb-true, eq-eqb, ne_eqb}
use Rattle.ground.specs.Range.{within}
use Rattle.ground.specs.Search.{first_below}
use Rattle.ground.proofs.Cases.{on_test}
use Rattle.ground.proofs.Ranges.{is_within, not_within}
use Rattle.ground.proofs.Reading.{next_left_lem}
use Rattle.ground.proofs.Searches.{Lowest, hit, is_hit, is_miss}
use Rattle.ground.proofs.Tests.{both_left, both_right}
use Rattle.request.specs.Inside.Check.{all_within, first_outside}

-- what is put in and is not 0 stays
stays : (found out : ℕ) → eqb out 0 ≡ false → eqb (bit_or found out) 0 ≡ false
stays found out e =
    ne_eqb (bit_or found out) 0 (λ z. let n : out ≡ 0 = omega (arith, or_add_and found out, and_le_l found out) in true≢false (sym (eq-eqb out 0 n) ∙ e))

module _ (low high : ℕ) where
  -- the difference, which wraps below the bounds, and how far it is above them
  module _ (x y : ℕ) (bounded : high < 65536) (order : low ≤ high) (small : y < 65536) (wraps : (y + low) % 65536 ≡ x) where
    pub far_outside : high - low < y → eqb (y - (high - low)) 0 ≡ within low high x
    far_outside h =
        ne_eqb (y - (high - low)) 0 (λ z. omega arith) ∙ sym (not_within low high x (λ p q. omega arith))

    pub near_within : y ≤ high - low → eqb 0 0 ≡ within low high x
    near_within h = sym (is_within low high x (omega arith) (omega arith))

  -- one sample more
  looked :
      (found out x : ℕ) (xs : List ℕ)
      → eqb out 0 ≡ within low high x
      → (eqb (bit_or found out) 0 && all_within low high xs) ≡ (eqb found 0 && all_within low high (x ∷ xs))
  unfolding all_within
  looked found out x xs e =
      on_test (within low high x)
      (λ t. let n : out ≡ 0 = eqb-true out 0 (e ∙ t) in simp (t, n, or_zero_r))
      (λ t. simp (t, stays found out (e ∙ t), and-false))

  pub look_flip :
      (found out : ℕ) (xs : List ℕ) (i : ℕ)
      → i < length xs → eqb out 0 ≡ within low high (get_or xs i 0)
      → (eqb (bit_or found out) 0 && all_within low high (drop (i + 1) xs)) ≡ (eqb found 0 && all_within low high (drop i xs))
  look_flip found out xs i h e = rw (next_left_lem xs i 0 h) (looked found out (get_or xs i 0) (drop (i + 1) xs) e)

  pub look_done : (found : ℕ) (xs : List ℕ) (i : ℕ) → length xs ≤ i → (eqb found 0 && all_within low high (drop i xs)) ≡ eqb found 0
  unfolding all_within
  look_done found xs i h = rw (drop_of_length-le, and-true)

  -- where none is outside, each is within
  pub each_within : (xs : List ℕ) → all_within low high xs ≡ true → (i : ℕ) → i < length xs → within low high (get_or xs i 0) ≡ true
  unfolding all_within
  each_within [] t i h = absurd (not-suc-le-zero h)
  each_within (x ∷ xs) t zero h = both_left (within low high x) (all_within low high xs) t
  each_within (x ∷ xs) t (suc i) h =
      each_within xs (both_right (within low high x) (all_within low high xs) t) i (le_of_suc-le-suc h)

  module _ (xs : List ℕ) where
    -- the sample at i is outside
    abbrev pub outside_at : ℕ → Bool
    outside_at i = not (within low high (get_or xs i 0))

    -- where those before one are within, it is the first
    pub outside_first :
        (k : ℕ) → k < length xs
        → ((j : ℕ) → j < k → within low high (get_or xs j 0) ≡ true) → within low high (get_or xs k 0) ≡ false
        → first_outside low high xs ≡ k
    unfolding first_outside
    outside_first k h before t =
        let lowest : Lowest outside_at 0 (length xs) k = record { from = omega arith; below = h; holds = ap not t; least = λ j _ l. ap not (before j l) } in
        rw (is_hit outside_at (length xs) k lowest)

    -- where all are, there is none
    pub outside_never : ((j : ℕ) → j < length xs → within low high (get_or xs j 0) ≡ true) → first_outside low high xs ≡ length xs
    unfolding first_outside
    outside_never each = rw (is_miss outside_at (length xs) (record { never = λ j _ l. ap not (each j l) }))

    -- what the number tells of the search
    module _ (w : ℕ) (is : w ≡ first_outside low high xs) where
      pub found_first : w < length xs → first_below (length xs) outside_at ≡ some w
      unfolding first_outside
      found_first h = go (first_below (length xs) outside_at) refl
        where
          go : (o : Option ℕ) → first_below (length xs) outside_at ≡ o → first_below (length xs) outside_at ≡ some w
          go none e = let q : w ≡ length xs = is ∙ rw e in absurd (omega arith)
          go (some k) e = let q : w ≡ k = is ∙ rw e in rw q e

      pub found_none : length xs ≤ w → first_below (length xs) outside_at ≡ none
      unfolding first_outside
      found_none h = go (first_below (length xs) outside_at) refl
        where
          go : (o : Option ℕ) → first_below (length xs) outside_at ≡ o → first_below (length xs) outside_at ≡ none
          go none e = e
          go (some k) e = let q : w ≡ k = is ∙ rw e in absurd (omega (arith, (hit outside_at (length xs) k e).below))
