-- The bit in which two words differ: the lowest one of their exclusive or.
-- Assumes nothing.
use mathlib.Core.Path.{◌≡◌, refl, sym, ap, ◌∙◌}
use mathlib.Core.Bool.{Bool, true, false, cond}
use mathlib.Core.Logic.{⊎_elim}
use mathlib.Core.Option.{Option, none, some}
use Prim.Native.Nat.{ℕ, zero, suc, ◌+◌, ◌/◌, ◌%◌, ◌^◌, ◌≤◌, ◌<◌}
use native.Mathlib.Nat.{add-zero, zero-add, add-suc, suc-add, pow-suc, div-one, div-div-eq-div-mul, eq-zero-or-pos, pos_of_ne-zero}
use native.Mathlib.Omega.{arith}
use lib.Count.{ones_in, count_trailing_zeros}
use lib.Dec.{eqb}
use borrow.Author.Tests.{eqb-true, eqb-false}
use Rattle.ground.specs.Bit.{bit_in, inverted}
use Rattle.ground.specs.Inside.Test.{every_below}
use Rattle.ground.specs.Search.{first_from, first_below}
use Rattle.ground.specs.Xor.{◌⊕◌}
use Rattle.ground.proofs.Bits.{no_bit_lem}
use Rattle.ground.proofs.Cases.{on_test}
use Rattle.ground.proofs.Searches.{hit}
use Rattle.ground.proofs.Tests.{at_number}
use Rattle.ground.proofs.Xors.{⊕_self, ⊕_assoc, ⊕_below, ⊕_cancel, zero_⊕, inverted_⊕, one_inverted}
use Rattle.std.specs.Prelude.{None, Some}
use Rattle.word.specs.Repair.{distance, differs_at, bit_found, bit_of}
use Rattle.word.proofs.Repairs.{some_one}

-- the lowest one of a number
abbrev lowest_one : ℕ → Option ℕ
lowest_one x = first_below 12 (λ k. eqb (bit_in k x) 1)

-- whether a search found this number
abbrev is_at : ℕ → Option ℕ → Bool
is_at n none = false
is_at n (some k) = eqb k n

at_told : (n : ℕ) (o : Option ℕ) → is_at n o ≡ true → o ≡ some n
at_told n none t = let z : ◌≡◌ {A = ℕ} 0 1 = cc in absurd (omega arith)
at_told n (some k) t = ap some (eqb-true k n t)

-- the zeros below it say where it is; n is what is left of x from bit i on
lowest_from : (x b c i n : ℕ) → b ≤ c → n < 2 ^ b → 0 < n → x / 2 ^ i ≡ n
    → first_from i b (λ k. eqb (bit_in k x) 1) ≡ some (i + count_trailing_zeros c n)
unfolding first_from bit_in count_trailing_zeros
lowest_from x zero c i n h l p e = absurd (omega arith)
lowest_from x (suc b) zero i n h l p e = absurd (omega arith)
lowest_from x (suc b) (suc c) i n h l p e =
    ⊎_elim
    (λ (even : n % 2 ≡ 0).
    let half : x / 2 ^ suc i ≡ n / 2 = rw (pow-suc, ← (div-div-eq-div-mul x (2 ^ i) 2), e) in
    let up = lowest_from x b c (suc i) (n / 2) (omega arith) (omega (arith, rw pow-suc at l)) (omega arith) half in
    let t = count_trailing_zeros c (n / 2) in
    rw (e, even) (up ∙ ap some (suc-add i t ∙ sym (add-suc i t))))
    (λ (o : 0 < n % 2). let odd : n % 2 ≡ 1 = omega arith in rw (e, odd, add-zero))
    (eq-zero-or-pos (n % 2))

pub lowest_is : (x : ℕ) → x < 4096 → (x ≡ 0 → ⊥) → lowest_one x ≡ some (count_trailing_zeros 16 x)
unfolding first_below
lowest_is x h n = rw zero-add at (lowest_from x 12 16 0 x (omega arith) h (pos_of_ne-zero n) (div-one x))

-- alone it makes up the number
alone : (b c x : ℕ) → b ≤ c → x < 2 ^ b → 0 < x → ones_in b x ≤ 1 → 2 ^ count_trailing_zeros c x ≡ x
unfolding ones_in count_trailing_zeros
alone zero c x h l p d = absurd (omega arith)
alone (suc b) zero x h l p d = absurd (omega arith)
alone (suc b) (suc c) x h l p d =
    let small : x / 2 < 2 ^ b = omega (arith, rw pow-suc at l) in
    ⊎_elim
    (λ (even : x % 2 ≡ 0).
    let rest = alone b c (x / 2) (omega arith) small (omega arith) (omega arith) in
    rw (even, pow-suc 2 (count_trailing_zeros c (x / 2))) (omega (arith, rest)))
    (λ (o : 0 < x % 2).
    let odd : x % 2 ≡ 1 = omega arith in
    ⊎_elim (λ (none : x / 2 ≡ 0). rw odd (omega arith)) (λ q. absurd (omega (arith, some_one b (x / 2) small q))) (eq-zero-or-pos (x / 2)))
    (eq-zero-or-pos (x % 2))

-- ---- two words

module _ (a b : ℕ) where
  by_lowest : bit_of a b ≡ bit_found (lowest_one (a ⊕ b))
  unfolding bit_of differs_at
  by_lowest = refl

  -- they are the same
  pub no_difference : a ⊕ b ≡ 0 → bit_of a b ≡ None
  unfolding first_below first_from bit_in
  no_difference e = by_lowest ∙ ap (λ (x : ℕ). bit_found (lowest_one x)) e

  same : eqb (a ⊕ b) 0 ≡ true → a ≡ b
  same t = sym (⊕_cancel a b a (eqb-true (a ⊕ b) 0 t ∙ sym (⊕_self a)))

  module _ (h : a < 4096) (l : b < 4096) where
    -- they are not
    pub some_bit : (a ⊕ b ≡ 0 → ⊥) → bit_of a b ≡ Some (count_trailing_zeros 16 (a ⊕ b))
    some_bit n = by_lowest ∙ ap bit_found (lowest_is (a ⊕ b) (⊕_below 12 a b h l) n)

    pub bit_below : (a ⊕ b ≡ 0 → ⊥) → count_trailing_zeros 16 (a ⊕ b) < 12
    bit_below n =
        (hit (λ j. eqb (bit_in j (a ⊕ b)) 1) 12 (count_trailing_zeros 16 (a ⊕ b)) (lowest_is (a ⊕ b) (⊕_below 12 a b h l) n)).below

    -- the bit that is answered, inverted, makes the one the other, where they differ in no second
    pub other_word : (k : ℕ) → distance a b ≤ 1 → bit_of a b ≡ Some k → (k < 12) × (inverted k a ≡ b)
    unfolding distance
    other_word k d e =
        let x = a ⊕ b in
        on_test (eqb x 0) (λ t. let q : None ≡ Some k = sym (no_difference (eqb-true x 0 t)) ∙ e in let z : ◌≡◌ {A = ℕ} 0 1 = cc in absurd (omega arith))
        (λ t.
        let n : x ≡ 0 → ⊥ = eqb-false x 0 t in
        let q : Some (count_trailing_zeros 16 x) ≡ Some k = sym (some_bit n) ∙ e in
        let is : count_trailing_zeros 16 x ≡ k = cc in
        let small = ⊕_below 12 a b h l in
        let power : 2 ^ k ≡ x = rw is at (alone 12 16 x (omega arith) small (pos_of_ne-zero n) d) in (
          omega (arith, bit_below n),
          inverted_⊕ k a ∙ ap (λ (y : ℕ). a ⊕ y) power ∙ sym (⊕_assoc a a b) ∙ rw (⊕_self, zero_⊕),
        ))

    pub same_words : bit_of a b ≡ None → a ≡ b
    same_words e =
        on_test (eqb (a ⊕ b) 0) same
        (λ t.
        let q : Some (count_trailing_zeros 16 (a ⊕ b)) ≡ None = sym (some_bit (eqb-false (a ⊕ b) 0 t)) ∙ e in
        let z : ◌≡◌ {A = ℕ} 0 1 = cc in
        absurd (omega arith))

-- a word with one bit inverted
pub this_bit : (k w : ℕ) → k < 12 → bit_of (inverted k w) w ≡ Some k
unfolding first_below first_from bit_in
this_bit k w h =
    by_lowest (inverted k w) w
    ∙ ap (λ (x : ℕ). bit_found (lowest_one x)) (one_inverted k w)
    ∙ ap bit_found (at_told k (lowest_one (2 ^ k)) (at_number 12 (λ k. is_at k (lowest_one (2 ^ k))) refl k h))

-- bit by bit
pub no_bit_differs : (k w : ℕ) → differs_at k w w ≡ 0
unfolding differs_at
no_bit_differs k w = ap (bit_in k) (⊕_self w) ∙ no_bit_lem k

pub one_bit_differs : (j k w : ℕ) → j < 12 → k < 12 → differs_at j (inverted k w) w ≡ cond (eqb j k) 1 0
unfolding differs_at bit_in
one_bit_differs j k w h l =
    let test : ℕ → ℕ → Bool = λ j k. eqb (bit_in j (2 ^ k)) (cond (eqb j k) 1 0) in
    ap (bit_in j) (one_inverted k w)
    ∙ eqb-true (bit_in j (2 ^ k)) (cond (eqb j k) 1 0) (at_number 12 (test j) (at_number 12 (λ j. every_below 12 (test j)) refl j h) k l)
