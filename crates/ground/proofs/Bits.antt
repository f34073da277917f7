-- The bits of a number, and a number with one bit inverted.
-- Assumes nothing.
use mathlib.Core.Path.{◌≡◌, refl, sym, ap, ◌∙◌}
use Prim.Native.Nat.{ℕ, zero, suc, ◌+◌, ◌-◌, ◌*◌, ◌/◌, ◌%◌, ◌^◌, ◌<◌}
use native.Mathlib.Nat.{not-suc-le-zero, le_of_suc-le-suc, pow-suc, pow-succ', div-div-eq-div-mul}
use native.Mathlib.Omega.{arith}
use native.Mathlib.Numerals.{add-one}
use lib.Count.{ones_in}
use lib.Pow.{mod-pow-add}
use Rattle.ground.specs.Bit.{bit_in, inverted}

-- Bit k + 1 of a number is bit k of its half, and 0 has no bit that is 1.
pub bit_of_half : (k n : ℕ) → bit_in (suc k) n ≡ bit_in k (n / 2)
unfolding bit_in
bit_of_half k n = ap (λ (x : ℕ). x % 2) (ap (λ (x : ℕ). n / x) (pow-succ' 2 k) ∙ sym (div-div-eq-div-mul n 2 (2 ^ k)))

pub no_bit_lem : (k : ℕ) → bit_in k 0 ≡ 0
unfolding bit_in
no_bit_lem zero = refl
no_bit_lem (suc k) = bit_of_half k 0 ∙ no_bit_lem k

-- Inverting the lowest bit keeps the rest, and inverting another keeps the lowest.
lowest_rest : (n : ℕ) → inverted 0 n / 2 ≡ n / 2
unfolding inverted
lowest_rest n = omega arith

lowest_bit : (n : ℕ) → inverted 0 n % 2 ≡ 1 - n % 2
unfolding inverted
lowest_bit n = omega arith

higher_rest : (k n : ℕ) → inverted (suc k) n / 2 ≡ inverted k (n / 2)
unfolding inverted
higher_rest k n = omega arith

higher_bit : (k n : ℕ) → inverted (suc k) n % 2 ≡ n % 2
unfolding inverted
higher_bit k n = omega arith

-- An inverted bit makes an odd count of ones even, and an even one odd.
pub inverted_ones : (b k n : ℕ) → k < b → ones_in b (inverted k n) % 2 ≡ (1 + ones_in b n) % 2
unfolding ones_in
inverted_ones zero k n h = absurd (not-suc-le-zero h)
inverted_ones (suc b) zero n h = rw (lowest_rest, lowest_bit) (omega arith)
inverted_ones (suc b) (suc k) n h =
    let e = inverted_ones b k (n / 2) (le_of_suc-le-suc h) in rw (higher_rest, higher_bit) (omega arith)

-- A bit inverted twice is as it was.
pub inverted_twice : (k n : ℕ) → inverted k (inverted k n) ≡ n
unfolding inverted
inverted_twice zero n = omega arith
inverted_twice (suc k) n =
    let q : (inverted k (n / 2) * 2 + n % 2) / 2 ≡ inverted k (n / 2) = omega arith in
    omega (arith, ap (inverted k) q, inverted_twice k (n / 2))

-- A number of b bits still has b bits.
pub inverted_below : (b k n : ℕ) → k < b → n < 2 ^ b → inverted k n < 2 ^ b
unfolding inverted
inverted_below zero k n h l = absurd (not-suc-le-zero h)
inverted_below (suc b) zero n h l = rw pow-suc (omega (arith, rw pow-suc at l))
inverted_below (suc b) (suc k) n h l =
    let e = inverted_below b k (n / 2) (le_of_suc-le-suc h) (omega (arith, rw pow-suc at l)) in
    rw pow-suc (omega arith)

-- Of a number, b bits count.
pub ones_low : (b n : ℕ) → ones_in b (n % 2 ^ b) ≡ ones_in b n
unfolding ones_in
ones_low zero n = refl
ones_low (suc b) n =
    let e : n % 2 ^ suc b ≡ n / 2 % 2 ^ b * 2 + n % 2 = rw (← (add-one b)) (mod-pow-add n b 1) in
    let q : n % 2 ^ suc b / 2 ≡ n / 2 % 2 ^ b = omega arith in
    let r : n % 2 ^ suc b % 2 ≡ n % 2 = omega arith in
    rw (q, r, ones_low b (n / 2))
