-- How many digits a number takes, and how long its text is.
-- Assumes nothing.
use mathlib.Core.Path.{◌≡◌, refl}
use Prim.Native.Nat.{ℕ, zero, suc, ◌-◌, ◌*◌, ◌/◌, ◌^◌, ◌≤◌, ◌<◌}
use native.Mathlib.Nat.{le_antisymm, lt_of_lt_of_le, pow-suc, pow-le-pow_right, le_of_suc-le-suc, lt_of_not-le}
use native.Mathlib.Omega.{arith}
use lib.Dec.{ltb, lit≤}
use lib.ListN.{length, length-append}
use borrow.Author.Tests.{ltb-true, ltb-false}
use Rattle.io.specs.Digits.{last_digits, IsDigitCount}
use Rattle.ground.proofs.Cases.{on_test}
use Rattle.text.specs.Number.{places_in, places_of, decimal, hexadecimal}

pub length_digits : (b k n : ℕ) → length (last_digits b k n) ≡ k
length_digits b zero n = refl
length_digits b (suc k) n = rw (length-append, length_digits b k (n / b)) (omega arith)

-- where some digits hold a number, the fewest are no more
not_more : (b least n k most : ℕ) → 0 < b → IsDigitCount b least n k → least ≤ most → n < b ^ most → most < k → ⊥
not_more b least n k most h few within holds over =
    let p : b ^ (k - 1) ≤ n = few.2 (omega arith) in
    let q : b ^ most ≤ b ^ (k - 1) = pow-le-pow_right h (omega arith) in
    omega arith

pub fewest_most : (b least n k most : ℕ) → 0 < b → IsDigitCount b least n k → least ≤ most → n < b ^ most → k ≤ most
fewest_most b least n k most h few within holds = le_of_suc-le-suc (lt_of_not-le (not_more b least n k most h few within holds))

pub fewest_only : (b least n k j : ℕ) → 0 < b → IsDigitCount b least n k → IsDigitCount b least n j → k ≡ j
fewest_only b least n k j h f g =
    le_antisymm (fewest_most b least n k j h f g.0 g.1) (fewest_most b least n j k h g f.0 f.1)

-- a number takes one digit more than its tenth
tenth_full : (n k : ℕ) → 10 ≤ n → IsDigitCount 10 1 (n / 10) k → 10 ^ k ≤ n
tenth_full n zero h few = absurd (omega arith)
tenth_full n (suc zero) h few = h
tenth_full n (suc (suc j)) h few =
    let e : suc (suc j) - 1 ≡ suc j = omega arith in
    let p : 10 ^ suc j ≤ n / 10 = rw e at (few.2 (omega arith)) in
    let up : 10 ^ suc (suc j) ≡ 10 ^ suc j * 10 = pow-suc 10 (suc j) in
    omega arith

one_more : (n k : ℕ) → 10 ≤ n → IsDigitCount 10 1 (n / 10) k → IsDigitCount 10 1 n (suc k)
one_more n k h few =
    let up : 10 ^ suc k ≡ 10 ^ k * 10 = pow-suc 10 k in
    let e : suc k - 1 ≡ k = omega arith in
    (omega arith, omega (arith, few.1), λ l. rw e (tenth_full n k h few))

places_in_lem : (most n : ℕ) → n ≤ most → IsDigitCount 10 1 n (places_in most n)
places_in_lem zero n h = (omega arith, omega arith, λ l. absurd (omega arith))
places_in_lem (suc most) n h =
    on_test (ltb n 10) (λ t. simp t (omega arith, ltb-true n 10 t, λ l. absurd (omega arith)))
    (λ t. simp t (one_more n (places_in most (n / 10)) (ltb-false n 10 t) (places_in_lem most (n / 10) (omega (arith, ltb-false n 10 t)))))

-- no leading zero: they are the fewest digits that hold the number
pub places_fewest : (n : ℕ) → IsDigitCount 10 1 n (places_of n)
unfolding places_of
places_fewest n = places_in_lem n n (omega arith)

pub places_below : (n most : ℕ) → 1 ≤ most → n < 10 ^ most → places_of n ≤ most
places_below n most h l = fewest_most 10 1 n (places_of n) most (omega arith) (places_fewest n) h l

pub places_most : (n : ℕ) → n < 2 ^ 64 → places_of n ≤ 20
places_most n h = places_below n 20 (lit≤ tt) (lt_of_lt_of_le h (lit≤ tt))

pub places_most_16 : (n : ℕ) → n < 65536 → places_of n ≤ 5
places_most_16 n h = places_below n 5 (lit≤ tt) (lt_of_lt_of_le h (lit≤ tt))

pub length_decimal_most : (n : ℕ) → n < 2 ^ 64 → length (decimal n) ≤ 20
length_decimal_most n h = rw length_digits (places_most n h)

-- four hexadecimal digits hold a number of sixteen bits
pub length_hexadecimal : (n : ℕ) → length (hexadecimal n) ≡ 4
length_hexadecimal n = refl

pub four_digits : (n k : ℕ) → n < 65536 → IsDigitCount 16 4 n k → k ≡ 4
four_digits n k h few = fewest_only 16 4 n k 4 (omega arith) few (omega arith, h, λ l. absurd (omega arith))
