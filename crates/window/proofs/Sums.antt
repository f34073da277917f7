-- Sums, and what all XYZ of a span bring together.
-- Assumes nothing.
use mathlib.Core.Path.{◌≡◌, refl, sym, ap₂, ◌∙◌}
use Prim.Native.Nat.{ℕ, zero, suc, ◌+◌, ◌*◌, ◌/◌, ◌%◌, ◌≤◌, ◌<◌}
use native.Mathlib.Omega.{arith}
use lib.Count.{ones_in}
use lib.Dec.{eqb}
use borrow.Author.Tests.{eqb-true, eqb-false}
use Rattle.ground.specs.Bit.{bit_in}
use Rattle.ground.specs.Xor.{◌⊕◌}
use Rattle.ground.proofs.Bits.{bit_of_half}
use Rattle.ground.proofs.Cases.{on_test}
use Rattle.span.specs.Layout.{sav_xyz, eav_xyz}
use Rattle.word.specs.Repair.{distance, differs_at}
use Rattle.word.specs.Received.{repaired, wrong_bits, bit_wrong}
use Rattle.ground.proofs.Writing.{table_same}
use Rattle.window.specs.Read.{each_bit}
use Rattle.window.specs.Tests.{sum_of, over_xyz, repair_count, repairs_at}

-- sums of the same numbers
sum_same : (n : ℕ) (f g : ℕ → ℕ) → ((i : ℕ) → i < n → f i ≡ g i) → sum_of n f ≡ sum_of n g
unfolding sum_of
sum_same zero f g e = refl
sum_same (suc n) f g e = rw (sum_same n f g (λ i h. e i (omega arith)), e n (omega arith))

-- nothing, so many times
zero_sum : (n : ℕ) (f : ℕ → ℕ) → ((i : ℕ) → i < n → f i ≡ 0) → sum_of n f ≡ 0
unfolding sum_of
zero_sum zero f e = refl
zero_sum (suc n) f e = omega (arith, zero_sum n f (λ i h. e i (omega arith)), e n (omega arith))

-- a sum that has one term, the first
pub sum_one : (n : ℕ) (g : ℕ → ℕ) → ((t : ℕ) → 1 ≤ t → t < suc n → g t ≡ 0) → sum_of (suc n) g ≡ g 0
unfolding sum_of
sum_one zero g none = omega arith
sum_one (suc n) g none = omega (arith, sum_one n g (λ t p q. none t p (omega arith)), none (suc n) (omega arith) (omega arith))

-- where a sum is 0, every part of it is
pub parts_zero : (n : ℕ) (f : ℕ → ℕ) → sum_of n f ≡ 0 → (t : ℕ) → t < n → f t ≡ 0
unfolding sum_of
parts_zero zero f e t h = absurd (omega arith)
parts_zero (suc n) f e t h =
    on_test (eqb t n) (λ q. rw (eqb-true t n q) (omega arith))
    (λ q. parts_zero n f (omega arith) t (let x = eqb-false t n q in omega arith))

-- the sum of two, term by term
sum_both : (n : ℕ) (f g : ℕ → ℕ) → sum_of n (λ i. f i + g i) ≡ sum_of n f + sum_of n g
unfolding sum_of
sum_both zero f g = refl
sum_both (suc n) f g = omega (arith, sum_both n f g)

-- a table summed by rows, and by columns
sum_swap : (m n : ℕ) (f : ℕ → ℕ → ℕ) → sum_of m (λ i. sum_of n (f i)) ≡ sum_of n (λ j. sum_of m (λ i. f i j))
unfolding sum_of
sum_swap zero n f = sym (zero_sum n (λ j. 0) (λ j h. refl))
sum_swap (suc m) n f = rw (sum_swap m n f) (sym (sum_both n (λ j. sum_of m (λ i. f i j)) (f m)))

-- the first term, and the rest
sum_first : (n : ℕ) (f : ℕ → ℕ) → sum_of (suc n) f ≡ f 0 + sum_of n (λ i. f (suc i))
unfolding sum_of
sum_first zero f = omega arith
sum_first (suc n) f = omega (arith, sum_first n f)

-- the bits of a number, added up, are its ones
lowest_bit : (n : ℕ) → bit_in 0 n ≡ n % 2
unfolding bit_in
lowest_bit n = omega arith

bits_are_ones : (d n : ℕ) → sum_of d (λ k. bit_in k n) ≡ ones_in d n
unfolding sum_of ones_in
bits_are_ones zero n = refl
bits_are_ones (suc d) n =
    sum_first d (λ k. bit_in k n)
    ∙ ap₂ (λ (x y : ℕ). x + y) (lowest_bit n)
    (sum_same d (λ k. bit_in (suc k) n) (λ k. bit_in k (n / 2)) (λ k h. bit_of_half k n) ∙ bits_are_ones d (n / 2))

bits_of_word : (w : ℕ) → sum_of 12 (λ b. bit_wrong b w) ≡ wrong_bits w
unfolding distance differs_at
bits_of_word w = bits_are_ones 12 (w ⊕ repaired w)

-- counts that are the same for each of the twelve bits
pub same_bits : (f g : ℕ → ℕ) → ((b : ℕ) → b < 12 → f b ≡ g b) → each_bit f ≡ each_bit g
same_bits f g e = table_same 12 f g e

-- ---- over all XYZ

module _ (s : ℕ) where
  -- what is the same at each of them
  pub over_same : (g h : ℕ → ℕ) → ((t : ℕ) → t < s → (g (s * sav_xyz + t) ≡ h (s * sav_xyz + t)) × (g (s * eav_xyz + t) ≡ h (s * eav_xyz + t)))
      → over_xyz s g ≡ over_xyz s h
  over_same g h e =
      sum_same s (λ t. g (s * sav_xyz + t) + g (s * eav_xyz + t)) (λ t. h (s * sav_xyz + t) + h (s * eav_xyz + t))
      (λ t l. ap₂ (λ (x y : ℕ). x + y) (e t l).0 (e t l).1)

  -- nothing at any
  pub over_none : (g : ℕ → ℕ) → ((k : ℕ) → g k ≡ 0) → over_xyz s g ≡ 0
  over_none g e = zero_sum s (λ t. g (s * sav_xyz + t) + g (s * eav_xyz + t)) (λ t l. omega (arith, e (s * sav_xyz + t), e (s * eav_xyz + t)))

  -- the wrong bits of all of them, bit by bit, are all wrong bits
  pub bits_add_up : (word : ℕ → ℕ) → sum_of 12 (repairs_at s word) ≡ repair_count s word
  unfolding repairs_at repair_count
  bits_add_up word =
      let g : ℕ → ℕ → ℕ = λ b k. bit_wrong b (word k) in
      let both : ℕ → ℕ → ℕ = λ b t. g b (s * sav_xyz + t) + g b (s * eav_xyz + t) in
      sum_swap 12 s both
      ∙ sum_same s (λ t. sum_of 12 (λ b. both b t)) (λ t. wrong_bits (word (s * sav_xyz + t)) + wrong_bits (word (s * eav_xyz + t)))
      (λ t l.
      sum_both 12 (λ b. g b (s * sav_xyz + t)) (λ b. g b (s * eav_xyz + t))
      ∙ ap₂ (λ (x y : ℕ). x + y) (bits_of_word (word (s * sav_xyz + t))) (bits_of_word (word (s * eav_xyz + t))))
