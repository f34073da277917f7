-- A word counts as much where it stands as it does 86, 93 and 139 words further on together: X^(12 * 139) + X^(12 * 53) + X^(12 * 46) + 1 is a
-- multiple of the code's polynomial.
-- Assumes nothing.
use mathlib.Core.Path.{◌≡◌, refl, sym, ap, ap₂, ◌∙◌}
use mathlib.Core.Bool.{Bool, cond}
use Prim.Native.Nat.{ℕ, zero, suc, ◌+◌, ◌*◌, ◌/◌, ◌%◌, ◌<◌}
use native.Mathlib.Nat.{zero-mul}
use native.Mathlib.Numerals.{add-one}
use native.Mathlib.Omega.{arith}
use lib.Dec.{eqb}
use borrow.Author.Tests.{eq-eqb, ne_eqb}
use Rattle.ground.specs.Written.{upto, table}
use Rattle.ground.specs.Xor.{◌⊕◌}
use Rattle.ground.proofs.Writing.{table_same}
use Rattle.ground.proofs.Xors.{⊕_zero, zero_⊕, ⊕_self, ⊕_assoc, ⊕_middle, ⊕_div, ⊕_mod}
use Rattle.crcc.specs.Crcc.{taps, bit_step, bit_steps, crc, crc_word}
use Rattle.crcc.specs.Inside.Ahead.{ahead}
use Rattle.crcc.proofs.Linear.{ahead_by, ahead_by_lem, ahead_⊕, ahead_zero, ahead_last, ahead_more, ahead_commutes, crc_next, crc_sum}

-- ---- one bit

-- a bit times a number, of a sum of bits
bits_⊕ : (a b t : ℕ) → a < 2 → b < 2 → (a ⊕ b) * t ≡ a * t ⊕ b * t
bits_⊕ zero b t h l =
    ap (λ (x : ℕ). x * t) (zero_⊕ b) ∙ sym (ap (λ (x : ℕ). x ⊕ b * t) (zero-mul t) ∙ zero_⊕ (b * t))
bits_⊕ (suc zero) zero t h l =
    ap (λ (x : ℕ). x * t) (⊕_zero 1) ∙ sym (ap (λ (x : ℕ). 1 * t ⊕ x) (zero-mul t) ∙ ⊕_zero (1 * t))
bits_⊕ (suc zero) (suc zero) t h l =
    ap (λ (x : ℕ). x * t) (⊕_self 1) ∙ zero-mul t ∙ sym (⊕_self (1 * t))
bits_⊕ (suc zero) (suc (suc b)) t h l = absurd (omega arith)
bits_⊕ (suc (suc a)) b t h l = absurd (omega arith)

-- a step of a bit is one of a zero, and the taps if the bit is 1
bit_apart : (c b : ℕ) → b < 2 → bit_step c b ≡ bit_step c 0 ⊕ b * taps
unfolding bit_step
bit_apart c b h =
    ap (λ (x : ℕ). c / 2 ⊕ x) (bits_⊕ (c % 2) b taps (omega arith) h)
    ∙ sym (⊕_assoc (c / 2) (c % 2 * taps) (b * taps))
    ∙ ap (λ (x : ℕ). c / 2 ⊕ x * taps ⊕ b * taps) (sym (⊕_zero (c % 2)))

zero_bit_⊕ : (a b : ℕ) → bit_step (a ⊕ b) 0 ≡ bit_step a 0 ⊕ bit_step b 0
unfolding bit_step
zero_bit_⊕ a b =
    ap₂ (λ (x y : ℕ). x ⊕ (y ⊕ 0) * taps) (⊕_div a b 1) (⊕_mod a b 1)
    ∙ ap (λ (y : ℕ). a / 2 ⊕ b / 2 ⊕ y * taps) (⊕_zero (a % 2 ⊕ b % 2))
    ∙ ap (λ (y : ℕ). a / 2 ⊕ b / 2 ⊕ y) (bits_⊕ (a % 2) (b % 2) taps (omega arith) (omega arith))
    ∙ ⊕_middle (a / 2) (b / 2) (a % 2 * taps) (b % 2 * taps)
    ∙ ap₂ (λ (x y : ℕ). a / 2 ⊕ x * taps ⊕ (b / 2 ⊕ y * taps)) (sym (⊕_zero (a % 2))) (sym (⊕_zero (b % 2)))

zero_bit_zero : bit_step 0 0 ≡ 0
unfolding bit_step taps ◌⊕◌
zero_bit_zero = refl

-- ---- the multiple

-- a register after 139 words of zeros, after 53, after 46 and after none, together
pub multiple : ℕ → ℕ
multiple c = ahead 139 c ⊕ ahead 53 c ⊕ (ahead 46 c ⊕ c)

multiple_⊕ : (a b : ℕ) → multiple (a ⊕ b) ≡ multiple a ⊕ multiple b
unfolding multiple
multiple_⊕ a b =
    ap₂ (λ (x y : ℕ). x ⊕ y)
    (ap₂ (λ (x y : ℕ). x ⊕ y) (ahead_⊕ 139 a b) (ahead_⊕ 53 a b) ∙ ⊕_middle (ahead 139 a) (ahead 139 b) (ahead 53 a) (ahead 53 b))
    (ap (λ (x : ℕ). x ⊕ (a ⊕ b)) (ahead_⊕ 46 a b) ∙ ⊕_middle (ahead 46 a) (ahead 46 b) a b)
    ∙ ⊕_middle (ahead 139 a ⊕ ahead 53 a) (ahead 139 b ⊕ ahead 53 b) (ahead 46 a ⊕ a) (ahead 46 b ⊕ b)

multiple_commutes : (c : ℕ) → multiple (bit_step c 0) ≡ bit_step (multiple c) 0
unfolding multiple
multiple_commutes c =
    ap₂ (λ (x y : ℕ). x ⊕ y)
    (ap₂ (λ (x y : ℕ). x ⊕ y) (ahead_commutes 139 c) (ahead_commutes 53 c) ∙ sym (zero_bit_⊕ (ahead 139 c) (ahead 53 c)))
    (ap (λ (x : ℕ). x ⊕ bit_step c 0) (ahead_commutes 46 c) ∙ sym (zero_bit_⊕ (ahead 46 c) c))
    ∙ sym (zero_bit_⊕ (ahead 139 c ⊕ ahead 53 c) (ahead 46 c ⊕ c))

-- computed once, for the taps
taps_by : ahead_by 139 taps ⊕ ahead_by 53 taps ⊕ (ahead_by 46 taps ⊕ taps) ≡ 0
unfolding ahead_by taps ◌⊕◌
taps_by = refl

multiple_taps : multiple taps ≡ 0
unfolding multiple
multiple_taps = rw (← ahead_by_lem 139 taps, ← ahead_by_lem 53 taps, ← ahead_by_lem 46 taps) taps_by

multiple_zero : multiple 0 ≡ 0
unfolding multiple
multiple_zero = rw (ahead_zero 139, ahead_zero 53, ahead_zero 46, ⊕_zero 0, ⊕_zero 0) refl

multiple_bit : (b : ℕ) → b < 2 → multiple (b * taps) ≡ 0
multiple_bit zero h = ap multiple (zero-mul taps) ∙ multiple_zero
multiple_bit (suc zero) h = let e : 1 * taps ≡ taps = omega arith in ap multiple e ∙ multiple_taps
multiple_bit (suc (suc b)) h = absurd (omega arith)

-- so for what any word makes
multiple_bits : (n c w : ℕ) → multiple c ≡ 0 → multiple (bit_steps n c w) ≡ 0
unfolding bit_steps
multiple_bits zero c w z = z
multiple_bits (suc n) c w z =
    multiple_bits n (bit_step c (w % 2)) (w / 2)
    (ap multiple (bit_apart c (w % 2) (omega arith))
    ∙ multiple_⊕ (bit_step c 0) (w % 2 * taps)
    ∙ ap₂ (λ (x y : ℕ). x ⊕ y) (multiple_commutes c ∙ ap (λ (x : ℕ). bit_step x 0) z ∙ zero_bit_zero) (multiple_bit (w % 2) (omega arith))
    ∙ ⊕_zero 0)

pub multiple_word : (x : ℕ) → multiple (crc_word 0 x) ≡ 0
multiple_word x = multiple_bits 12 0 x multiple_zero

-- ---- one word in a run of zeros

-- x at place p, else 0
abbrev pub only : ℕ → ℕ → ℕ → ℕ
only p x i = cond (eqb i p) x 0

word_zero : crc_word 0 0 ≡ 0
unfolding ahead
word_zero = ahead_zero 1

pub zeros : (n : ℕ) → crc 0 (table n (λ i. 0)) ≡ 0
unfolding table upto crc
zeros zero = refl
zeros (suc n) =
    ap (λ (k : ℕ). crc 0 (table k (λ i. 0))) (sym (add-one n))
    ∙ sym (crc_next n (λ i. 0)) ∙ ap (λ (c : ℕ). crc_word c 0) (zeros n) ∙ word_zero

module _ (p x : ℕ) where
  only_before : crc 0 (table p (only p x)) ≡ 0
  only_before =
      ap (crc 0)
      (table_same p (only p x) (λ i. 0) (λ i h. ap (λ (t : Bool). cond t x 0) (ne_eqb i p (λ e. absurd (omega arith)))))
      ∙ zeros p

  -- what it makes, and the zeros after it
  only_at : (k n : ℕ) → n ≡ p + 1 + k → crc 0 (table n (only p x)) ≡ ahead k (crc_word 0 x)
  unfolding ahead
  only_at zero n e =
      let at : n ≡ p + 1 = omega arith in
      ap (λ (m : ℕ). crc 0 (table m (only p x))) at
      ∙ sym (crc_next p (only p x))
      ∙ ap₂ crc_word only_before (ap (λ (t : Bool). cond t x 0) (eq-eqb p p refl))
  only_at (suc k) n e =
      let at : n ≡ p + 1 + k + 1 = omega arith in
      ap (λ (m : ℕ). crc 0 (table m (only p x))) at
      ∙ sym (crc_next (p + 1 + k) (only p x))
      ∙ ap₂ crc_word (only_at k (p + 1 + k) refl)
      (ap (λ (t : Bool). cond t x 0) (ne_eqb (p + 1 + k) p (λ z. absurd (omega arith))))
      ∙ ahead_last k (crc_word 0 x)

-- ---- a word and its three places further on

abbrev pub moves : ℕ → ℕ → ℕ → ℕ
moves p x i = only p x i ⊕ only (p + 86) x i ⊕ (only (p + 93) x i ⊕ only (p + 139) x i)

pub moves_nothing : (p x k n : ℕ) → n ≡ p + 140 + k → crc 0 (table n (moves p x)) ≡ 0
unfolding multiple
moves_nothing p x k n e =
    let y = crc_word 0 x in
    crc_sum n (λ i. only p x i ⊕ only (p + 86) x i) (λ i. only (p + 93) x i ⊕ only (p + 139) x i)
    ∙ ap₂ (λ (a b : ℕ). a ⊕ b) (crc_sum n (only p x) (only (p + 86) x)) (crc_sum n (only (p + 93) x) (only (p + 139) x))
    ∙ ap₂ (λ (a b : ℕ). a ⊕ b)
    (ap₂ (λ (a b : ℕ). a ⊕ b) (only_at p x (139 + k) n (omega arith) ∙ sym (ahead_more 139 k y)) (only_at (p + 86) x (53 + k) n (omega arith) ∙ sym (ahead_more 53 k y))
    ∙ sym (ahead_⊕ k (ahead 139 y) (ahead 53 y)))
    (ap₂ (λ (a b : ℕ). a ⊕ b) (only_at (p + 93) x (46 + k) n (omega arith) ∙ sym (ahead_more 46 k y)) (only_at (p + 139) x k n (omega arith))
    ∙ sym (ahead_⊕ k (ahead 46 y) y))
    ∙ sym (ahead_⊕ k (ahead 139 y ⊕ ahead 53 y) (ahead 46 y ⊕ y))
    ∙ ap (ahead k) (multiple_word x)
    ∙ ahead_zero k
