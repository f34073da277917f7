-- Laws of exclusive or.
-- Assumes nothing.
use mathlib.Core.Path.{◌≡◌, refl, sym, ap, ◌∙◌}
use Prim.Native.Nat.{ℕ, zero, suc, ◌+◌, ◌-◌, ◌*◌, ◌/◌, ◌%◌, ◌^◌, ◌≤◌, ◌<◌}
use native.Mathlib.Nat.{add-zero, pow-suc}
use native.Mathlib.Omega.{arith}
use lib.Arith.{bin_ind}
use lib.Bits.{differ, xor_step, xor_zero_l, xor_zero_r, xor_comm, xor_self, xor_lt, xor_shr, xor_mod, xor_block, xor_shifted}
use lib.Count.{ones_in}
use lib.Pow.{pow_pos}
use Rattle.ground.specs.Bit.{inverted}
use Rattle.ground.specs.Xor.{◌⊕◌}

pub ⊕_zero : (a : ℕ) → a ⊕ 0 ≡ a
unfolding ◌⊕◌
⊕_zero a = xor_zero_r a

pub zero_⊕ : (a : ℕ) → 0 ⊕ a ≡ a
unfolding ◌⊕◌
zero_⊕ a = xor_zero_l a

pub ⊕_comm : (a b : ℕ) → a ⊕ b ≡ b ⊕ a
unfolding ◌⊕◌
⊕_comm a b = xor_comm a b

pub ⊕_self : (a : ℕ) → a ⊕ a ≡ 0
unfolding ◌⊕◌
⊕_self a = xor_self a

pub ⊕_below : (k a b : ℕ) → a < 2 ^ k → b < 2 ^ k → a ⊕ b < 2 ^ k
unfolding ◌⊕◌
⊕_below k a b = xor_lt k a b

pub ⊕_div : (a b k : ℕ) → (a ⊕ b) / 2 ^ k ≡ a / 2 ^ k ⊕ b / 2 ^ k
unfolding ◌⊕◌
⊕_div a b k = xor_shr a b k

pub ⊕_mod : (a b k : ℕ) → (a ⊕ b) % 2 ^ k ≡ a % 2 ^ k ⊕ b % 2 ^ k
unfolding ◌⊕◌
⊕_mod a b k = xor_mod a b k

pub ⊕_times : (a b k : ℕ) → (a ⊕ b) * 2 ^ k ≡ a * 2 ^ k ⊕ b * 2 ^ k
unfolding ◌⊕◌
⊕_times a b k = rw (add-zero, add-zero, xor_zero_l 0, add-zero) at (sym (xor_block k a b 0 0 (pow_pos k) (pow_pos k)))

-- a number below another's lowest bit is added to it
pub ⊕_shifted : (a k b : ℕ) → b < 2 ^ k → a * 2 ^ k ⊕ b ≡ a * 2 ^ k + b
unfolding ◌⊕◌
⊕_shifted a k b h = xor_shifted a k b h

-- ---- the order of three does not matter: digit by digit

digit_assoc : (x y z : ℕ) → x < 2 → y < 2 → z < 2 → differ (differ x y) z ≡ differ x (differ y z)
digit_assoc zero y z p q r = refl
digit_assoc (suc zero) zero z p q r = refl
digit_assoc (suc zero) (suc zero) zero p q r = refl
digit_assoc (suc zero) (suc zero) (suc zero) p q r = refl
digit_assoc (suc zero) (suc zero) (suc (suc z)) p q r = absurd (omega arith)
digit_assoc (suc zero) (suc (suc y)) z p q r = absurd (omega arith)
digit_assoc (suc (suc x)) y z p q r = absurd (omega arith)

digit_below : (x y : ℕ) → x < 2 → y < 2 → differ x y < 2
digit_below zero y p q = q
digit_below (suc x) zero p q = p
digit_below (suc x) (suc y) p q = digit_below x y (omega arith) (omega arith)

split : (a b : ℕ) → a ⊕ b ≡ (a / 2 ⊕ b / 2) * 2 + differ (a % 2) (b % 2)
unfolding ◌⊕◌
split a b = xor_step a b

digit : (a b : ℕ) → differ (a % 2) (b % 2) < 2
digit a b = digit_below (a % 2) (b % 2) (omega arith) (omega arith)

half : (a b : ℕ) → (a ⊕ b) / 2 ≡ a / 2 ⊕ b / 2
half a b = omega (arith, split a b, digit a b)

last : (a b : ℕ) → (a ⊕ b) % 2 ≡ differ (a % 2) (b % 2)
last a b = omega (arith, split a b, digit a b)

pub ⊕_assoc : (a b c : ℕ) → (a ⊕ b) ⊕ c ≡ a ⊕ (b ⊕ c)
⊕_assoc =
    bin_ind (λ (a : ℕ). (b c : ℕ) → (a ⊕ b) ⊕ c ≡ a ⊕ (b ⊕ c)) (λ b c. rw (zero_⊕ b, zero_⊕ (b ⊕ c)))
    (λ a ih b c.
    cc (
      split (a ⊕ b) c,
      half a b,
      last a b,
      ih (b / 2) (c / 2),
      digit_assoc (a % 2) (b % 2) (c % 2) (omega arith) (omega arith) (omega arith),
      split a (b ⊕ c),
      half b c,
      last b c,
    ))

-- a number is told from its exclusive or with another
pub ⊕_cancel : (a b c : ℕ) → a ⊕ b ≡ a ⊕ c → b ≡ c
⊕_cancel a b c e =
    sym (back b) ∙ ap (λ (x : ℕ). a ⊕ x) e ∙ back c
  where
    back : (x : ℕ) → a ⊕ (a ⊕ x) ≡ x
    back x = sym (⊕_assoc a a x) ∙ rw (⊕_self, zero_⊕)

-- two terms that stand between two others change places
pub ⊕_middle : (a b c d : ℕ) → (a ⊕ b) ⊕ (c ⊕ d) ≡ (a ⊕ c) ⊕ (b ⊕ d)
⊕_middle a b c d =
    ⊕_assoc a b (c ⊕ d)
    ∙ ap (λ (x : ℕ). a ⊕ x) (sym (⊕_assoc b c d) ∙ ap (λ (x : ℕ). x ⊕ d) (⊕_comm b c) ∙ ⊕_assoc c b d)
    ∙ sym (⊕_assoc a c (b ⊕ d))

-- an exclusive or has no more ones than its two parts
digit_sum : (x y : ℕ) → differ x y ≤ x + y
digit_sum zero y = omega arith
digit_sum (suc x) zero = omega arith
digit_sum (suc x) (suc y) = let h = digit_sum x y in omega arith

pub ones_⊕ : (b x y : ℕ) → ones_in b (x ⊕ y) ≤ ones_in b x + ones_in b y
unfolding ones_in
ones_⊕ zero x y = omega arith
ones_⊕ (suc b) x y =
    let ih = ones_⊕ b (x / 2) (y / 2) in
    rw (half x y, last x y) (omega (arith, digit_sum (x % 2) (y % 2)))

-- an inverted bit is an exclusive or with that bit
digit_one : (x : ℕ) → x < 2 → differ x 1 ≡ 1 - x
digit_one zero h = refl
digit_one (suc zero) h = refl
digit_one (suc (suc x)) h = absurd (omega arith)

digit_zero : (x : ℕ) → differ x 0 ≡ x
digit_zero zero = refl
digit_zero (suc x) = refl

pub inverted_⊕ : (k n : ℕ) → inverted k n ≡ n ⊕ 2 ^ k
unfolding inverted
inverted_⊕ zero n = sym (split n 1 ∙ rw (⊕_zero, digit_one (n % 2) (omega arith)))
inverted_⊕ (suc k) n =
    let h : 2 ^ suc k / 2 ≡ 2 ^ k = rw pow-suc (omega arith) in
    let l : 2 ^ suc k % 2 ≡ 0 = rw pow-suc (omega arith) in
    sym (split n (2 ^ suc k) ∙ rw (h, l, digit_zero, ← (inverted_⊕ k (n / 2))))

-- what a number with one bit inverted, and with two, differs in
pub one_inverted : (k n : ℕ) → inverted k n ⊕ n ≡ 2 ^ k
one_inverted k n = ap (λ (x : ℕ). x ⊕ n) (inverted_⊕ k n ∙ ⊕_comm n (2 ^ k)) ∙ ⊕_assoc (2 ^ k) n n ∙ rw (⊕_self, ⊕_zero)

pub two_inverted : (j k n : ℕ) → inverted j (inverted k n) ⊕ n ≡ 2 ^ j ⊕ 2 ^ k
two_inverted j k n =
    ap (λ (x : ℕ). x ⊕ n) (inverted_⊕ j (inverted k n) ∙ ⊕_comm (inverted k n) (2 ^ j))
    ∙ ⊕_assoc (2 ^ j) (inverted k n) n ∙ ap (λ (x : ℕ). 2 ^ j ⊕ x) (one_inverted k n)
