-- Bits turned round and bits counted, as std has both.
-- Assumes nothing.
use mathlib.Core.Path.{◌≡◌, refl, ap, ◌∙◌}
use Prim.Native.Nat.{ℕ, zero, suc, ◌+◌, ◌-◌, ◌*◌, ◌/◌, ◌%◌, ◌^◌, ◌≤◌, ◌<◌}
use native.Mathlib.Nat.{pow-suc, mul_comm, mul-le-mul_right, mul-add-div, div-eq_of_lt, div-div-eq-div-mul}
use Rattle.std.proofs.lemmas.Nat.{pow-add}
use native.Mathlib.Omega.{arith}
use lib.Count.{ones, ones_in, ones_step}
use Rattle.std.specs.Int.{reverse_bits_onto}
use Rattle.symbol.specs.Code.{reversed}

-- a number of b bits has its ones among them
pub ones_of : (b n : ℕ) → n < 2 ^ b → ones n ≡ ones_in b n
unfolding ones_in ones
ones_of zero n h = let none : n ≡ 0 = omega arith in rw none refl
ones_of (suc b) n h = ones_step n ∙ ap (λ (k : ℕ). n % 2 + k) (ones_of b (n / 2) (omega (arith, pow-suc 2 b)))

-- k bits turned round have k bits
pub reversed_below : (k n : ℕ) → reversed k n < 2 ^ k
unfolding reversed
reversed_below zero n = omega arith
reversed_below (suc k) n =
    let bit : n % 2 ≤ 1 = omega arith in
    omega (arith, mul-le-mul_right (2 ^ k) bit, reversed_below k (n / 2), pow-suc 2 k)

carried : (a b p : ℕ) → (a * 2 + b) * p ≡ a * (p * 2) + b * p
carried a b p = omega arith

-- std turns them round onto what it has
onto : (k n a : ℕ) → reverse_bits_onto k n a ≡ a * 2 ^ k + reversed k n
unfolding reverse_bits_onto reversed
onto zero n a = omega arith
onto (suc k) n a = onto k (n / 2) (a * 2 + n % 2) ∙ rw (carried a (n % 2) (2 ^ k), pow-suc 2 k) (omega arith)

-- the first b of b + r bits stand above the others
first : (b r n : ℕ) → reversed (b + r) n ≡ reversed b n * 2 ^ r + reversed r (n / 2 ^ b)
unfolding reversed
first zero r n =
    let none : zero + r ≡ r = omega arith in
    let same : n / 2 ^ 0 ≡ n = omega arith in rw (none, same) (omega arith)
first (suc b) r n =
    let one : suc b + r ≡ suc (b + r) = omega arith in
    let half : n / 2 ^ suc b ≡ n / 2 / 2 ^ b = rw (pow-suc, mul_comm (2 ^ b) 2, div-div-eq-div-mul) refl in
    rw (one, half, first b r (n / 2), pow-add 2 b r) (omega arith)

-- the turned bits of a number, where it is the one that was given
pub turned_is : (b m n : ℕ) → b ≤ 16 → m ≡ n → reverse_bits_onto 16 m 0 / 2 ^ (16 - b) ≡ reversed b n
turned_is b m n h e =
    let r : ℕ = 16 - b in
    let all : 16 ≡ b + r = omega arith in
    let room : 0 < 2 ^ r = omega (arith, reversed_below r 0) in
    let whole : reverse_bits_onto 16 n 0 ≡ 2 ^ r * reversed b n + reversed r (n / 2 ^ b) =
    onto 16 n 0 ∙ omega arith ∙ ap (λ (k : ℕ). reversed k n) all ∙ first b r n ∙ omega arith in
    rw (e, whole, mul-add-div room (reversed b n) (reversed r (n / 2 ^ b)), div-eq_of_lt (reversed_below r (n / 2 ^ b))) (omega arith)
