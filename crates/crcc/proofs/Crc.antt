-- The CRC of a run: a word at a time, run after run, and what the register is below.
-- Assumes nothing.
use mathlib.Core.Path.{◌≡◌, refl, sym, ap, ap₂, ◌∙◌}
use mathlib.Core.List.{List, [], ◌∷◌, ◌++◌}
use Prim.Native.Nat.{ℕ, zero, suc, ◌+◌, ◌*◌, ◌/◌, ◌%◌, ◌^◌, ◌≤◌, ◌<◌}
use native.Mathlib.Nat.{add-zero, zero-mul, mul_assoc, pow-suc}
use native.Mathlib.Numerals.{add-one, one-add}
use native.Mathlib.Omega.{arith}
use lib.Pow.{pow-add, pow_pos, shl-shr, shr-shr, mod-pow-add, low}
use lib.Dec.{ltb}
use lib.ListN.{length, get_or}
use borrow.Author.Tests.{lt-ltb, le-ltb, ltb-true, ltb-false}
use Rattle.ground.specs.Answer.{refused, given}
use Rattle.ground.specs.Xor.{◌⊕◌}
use Rattle.ground.proofs.Cases.{on_test}
use Rattle.ground.proofs.Xors.{⊕_zero, ⊕_assoc, ⊕_comm, ⊕_middle, ⊕_below, ⊕_div, ⊕_mod, ⊕_times, ⊕_shifted}
use Rattle.crcc.specs.Crcc.{taps, bit_step, bit_steps, crc_word, crc, crcc_from, crcc_words}
use Rattle.word.specs.Word.{guarded}
use Rattle.word.proofs.Guards.{guard_kept}

-- what X^5 + X^4 + 1 makes of a number of bits: each comes back at its own place, one higher and five higher
spread : ℕ → ℕ
spread x = x * 2 ^ 5 ⊕ x * 2 ^ 1 ⊕ x

spread_⊕ : (x y : ℕ) → spread (x ⊕ y) ≡ spread x ⊕ spread y
unfolding spread
spread_⊕ x y =
    ap₂ (λ (a b : ℕ). a ⊕ b ⊕ (x ⊕ y)) (⊕_times x y 5) (⊕_times x y 1)
    ∙ ap (λ (a : ℕ). a ⊕ (x ⊕ y)) (⊕_middle (x * 2 ^ 5) (y * 2 ^ 5) (x * 2 ^ 1) (y * 2 ^ 1))
    ∙ ⊕_middle (x * 2 ^ 5 ⊕ x * 2 ^ 1) (y * 2 ^ 5 ⊕ y * 2 ^ 1) x y

spread_double : (x : ℕ) → spread (x * 2) ≡ spread x * 2
unfolding spread
spread_double x =
    let a : x * 2 * 2 ^ 5 ≡ x * 2 ^ 5 * 2 = omega arith in
    let b : x * 2 * 2 ^ 1 ≡ x * 2 ^ 1 * 2 = omega arith in
    sym (⊕_times (x * 2 ^ 5 ⊕ x * 2 ^ 1) x 1 ∙ ap (λ (y : ℕ). y ⊕ x * 2) (⊕_times (x * 2 ^ 5) (x * 2 ^ 1) 1)
    ∙ ap₂ (λ (y z : ℕ). y ⊕ z ⊕ x * 2) (sym a) (sym b))

spread_zero : spread 0 ≡ 0
unfolding spread ◌⊕◌
spread_zero = refl

-- one bit comes back as the taps do
spread_bit : (f : ℕ) → f < 2 → spread f ≡ f * 35
unfolding spread ◌⊕◌
spread_bit zero h = refl
spread_bit (suc zero) h = refl
spread_bit (suc (suc f)) h = absurd (omega arith)

module _ (n d c w : ℕ) (e : suc n + d ≡ 12) where
  abbrev f : ℕ
  f = c % 2 ⊕ w % 2

  f_below : f < 2
  f_below = ⊕_below 1 (c % 2) (w % 2) (omega arith) (omega arith)

  abbrev next : ℕ
  next = c / 2 ⊕ f * taps

  -- the taps stand above the bits that are left
  taps_high : f * taps ≡ f * 35 * 2 ^ suc d * 2 ^ n
  unfolding taps
  taps_high =
      let h : suc d + n ≡ 12 = omega arith in
      let t : 2 ^ suc d * 2 ^ n ≡ 4096 = sym (pow-add 2 (suc d) n) ∙ ap (λ (x : ℕ). 2 ^ x) h in
      let m : f * taps ≡ f * 35 * 4096 = omega arith in
      m ∙ ap (λ (x : ℕ). f * 35 * x) (sym t) ∙ sym (mul_assoc (f * 35) (2 ^ suc d) (2 ^ n))

  next_div : next / 2 ^ n ≡ c / 2 ^ suc n ⊕ f * 35 * 2 ^ suc d
  next_div =
      ⊕_div (c / 2) (f * taps) n
      ∙ ap₂ (λ (x y : ℕ). x ⊕ y) (shr-shr c 1 n ∙ ap (λ (x : ℕ). c / 2 ^ x) (one-add n)) (ap (λ (x : ℕ). x / 2 ^ n) taps_high ∙ shl-shr (f * 35 * 2 ^ suc d) n)

  taps_mod : f * taps % 2 ^ n ≡ 0
  taps_mod =
      ap (λ (x : ℕ). x % 2 ^ n) (taps_high ∙ sym (add-zero (f * 35 * 2 ^ suc d * 2 ^ n)))
      ∙ low (f * 35 * 2 ^ suc d) n (pow_pos n)

  next_mod : (next ⊕ w / 2) % 2 ^ n ≡ (c ⊕ w) / 2 % 2 ^ n
  next_mod =
      ⊕_mod next (w / 2) n
      ∙ ap (λ (x : ℕ). x ⊕ w / 2 % 2 ^ n)
      (⊕_mod (c / 2) (f * taps) n ∙ ap (λ (x : ℕ). c / 2 % 2 ^ n ⊕ x) taps_mod ∙ ⊕_zero (c / 2 % 2 ^ n))
      ∙ sym (⊕_mod (c / 2) (w / 2) n) ∙ ap (λ (x : ℕ). x % 2 ^ n) (sym (⊕_div c w 1))

  whole : (c ⊕ w) % 2 ^ suc n ≡ (c ⊕ w) / 2 % 2 ^ n * 2 ⊕ f
  whole =
      ap (λ (x : ℕ). (c ⊕ w) % 2 ^ x) (sym (add-one n))
      ∙ mod-pow-add (c ⊕ w) n 1
      ∙ ap (λ (x : ℕ). (c ⊕ w) / 2 % 2 ^ n * 2 + x) (⊕_mod c w 1)
      ∙ sym (⊕_shifted ((c ⊕ w) / 2 % 2 ^ n) 1 f f_below)

  -- one bit more: what the rest gives, and what this bit gives, are what all of them give
  turn : next / 2 ^ n ⊕ spread ((next ⊕ w / 2) % 2 ^ n) * 2 ^ suc (suc d) ≡ c / 2 ^ suc n ⊕ spread ((c ⊕ w) % 2 ^ suc n) * 2 ^ suc d
  turn =
      let z = (c ⊕ w) / 2 % 2 ^ n in
      let D = 2 ^ suc d in
      let p : 2 ^ suc (suc d) ≡ D * 2 = pow-suc 2 (suc d) in
      let q : spread z * (D * 2) ≡ spread z * 2 * D = omega arith in
      ap₂ (λ (x y : ℕ). x ⊕ spread y * 2 ^ suc (suc d)) next_div next_mod
      ∙ ap (λ (x : ℕ). c / 2 ^ suc n ⊕ f * 35 * D ⊕ x) (ap (λ (x : ℕ). spread z * x) p ∙ q)
      ∙ ⊕_assoc (c / 2 ^ suc n) (f * 35 * D) (spread z * 2 * D)
      ∙ ap (λ (x : ℕ). c / 2 ^ suc n ⊕ x)
      (⊕_comm (f * 35 * D) (spread z * 2 * D)
      ∙ sym (⊕_times (spread z * 2) (f * 35) (suc d))
      ∙ ap (λ (x : ℕ). x * D)
      (ap₂ (λ (x y : ℕ). x ⊕ y) (sym (spread_double z)) (sym (spread_bit f f_below))
      ∙ sym (spread_⊕ (z * 2) f) ∙ ap spread (sym whole)))

-- n of twelve bits at once
steps : (n d c w : ℕ) → n + d ≡ 12 → bit_steps n c w ≡ c / 2 ^ n ⊕ spread ((c ⊕ w) % 2 ^ n) * 2 ^ suc d
unfolding bit_steps bit_step
steps zero d c w e =
    let z : (c ⊕ w) % 1 ≡ 0 = omega arith in
    let o : c / 1 ≡ c = omega arith in
    rw (z, o, spread_zero, zero-mul, ⊕_zero)
steps (suc n) d c w e = steps n (suc d) (next n d c w e) (w / 2) (omega arith) ∙ turn n d c w e

-- the branch-free step of a word is twelve steps of a bit
pub word_step : (c w : ℕ) → let x = (c ⊕ w) % 4096 in c / 4096 ⊕ x * 64 ⊕ x * 4 ⊕ x * 2 ≡ crc_word c w
unfolding spread
word_step c w =
    let x = (c ⊕ w) % 4096 in
    let a : x * 64 ≡ x * 2 ^ 5 * 2 = omega arith in
    let b : x * 4 ≡ x * 2 ^ 1 * 2 = omega arith in
    let whole : x * 64 ⊕ x * 4 ⊕ x * 2 ≡ spread x * 2 ^ 1 =
    ap₂ (λ (y z : ℕ). y ⊕ z ⊕ x * 2) a b
    ∙ sym (⊕_times (x * 2 ^ 5 ⊕ x * 2 ^ 1) x 1 ∙ ap (λ (y : ℕ). y ⊕ x * 2) (⊕_times (x * 2 ^ 5) (x * 2 ^ 1) 1)) in
    ⊕_assoc (c / 4096 ⊕ x * 64) (x * 4) (x * 2)
    ∙ ⊕_assoc (c / 4096) (x * 64) (x * 4 ⊕ x * 2)
    ∙ ap (λ (y : ℕ). c / 4096 ⊕ y) (sym (⊕_assoc (x * 64) (x * 4) (x * 2)) ∙ whole)
    ∙ sym (steps 12 0 c w refl)

-- the CRC of a run continues
pub crc_append : (c : ℕ) (xs ys : List ℕ) → crc (crc c xs) ys ≡ crc c (xs ++ ys)
unfolding crc
crc_append c [] ys = refl
crc_append c (x ∷ xs) ys = crc_append (crc_word c x) xs ys

-- the register has eighteen bits
bit_below : (c b : ℕ) → c < 2 ^ 18 → b < 2 → bit_step c b < 2 ^ 18
unfolding bit_step taps
bit_below c b h l =
    let f : c % 2 ⊕ b < 2 = ⊕_below 1 (c % 2) b (omega arith) l in
    ⊕_below 18 (c / 2) ((c % 2 ⊕ b) * taps) (omega arith) (omega arith)

bits_below : (n c w : ℕ) → c < 2 ^ 18 → bit_steps n c w < 2 ^ 18
unfolding bit_steps
bits_below zero c w h = h
bits_below (suc n) c w h = bits_below n (bit_step c (w % 2)) (w / 2) (bit_below c (w % 2) h (omega arith))

pub crc_below : (c : ℕ) (ws : List ℕ) → c < 2 ^ 18 → crc c ws < 2 ^ 18
unfolding crc
crc_below c [] h = h
crc_below c (w ∷ ws) h = crc_below (crc_word c w) ws (bits_below 12 c w h)

-- a run's answer, word by word
pub none_left : (c : ℕ) → crcc_from c [] ≡ given c
unfolding crc
none_left c = refl

module _ (c w : ℕ) (ws : List ℕ) where
  pub bad_word : 4096 ≤ w → crcc_from c (w ∷ ws) ≡ refused 7 0
  bad_word h = simp (le-ltb w 4096 h)

  pub good_word : w < 4096 → crcc_from c (w ∷ ws) ≡ crcc_from (crc_word c w) ws
  unfolding crc
  good_word h = simp (lt-ltb w 4096 h)

-- ---- which runs are refused, in the paper's own numerals

pub crcc_good : (c : ℕ) (ws : List ℕ) → ((i : ℕ) → i < length ws → get_or ws i 0 ≤ 4095) → crcc_from c ws ≡ given (crc c ws)
unfolding crc
crcc_good c [] f = refl
crcc_good c (w ∷ ws) f =
    good_word c w ws (let h : w ≤ 4095 = f 0 (omega arith) in omega arith)
    ∙ crcc_good (crc_word c w) ws (λ i h. f (suc i) (omega arith))

pub crcc_meets_7 : (c : ℕ) (ws : List ℕ) (i : ℕ) → i < length ws → 4095 < get_or ws i 0 → crcc_from c ws ≡ refused 7 0
crcc_meets_7 c [] i h b = absurd (omega arith)
crcc_meets_7 c (w ∷ ws) zero h b = bad_word c w ws b
crcc_meets_7 c (w ∷ ws) (suc i) h b =
    let rest = crcc_meets_7 (crc_word c w) ws i (omega arith) b in
    on_test (ltb w 4096) (λ t. good_word c w ws (ltb-true w 4096 t) ∙ rest) (λ t. bad_word c w ws (ltb-false w 4096 t))

-- ---- the two words tell the register (table 9)

nine_bits : (x : ℕ) → x < 512 → guarded (x * 4) / 4 % 512 ≡ x
nine_bits x h = omega (arith, guard_kept (x * 4))

pub register_again : (c : ℕ) → c < 2 ^ 18 → (crcc_words c).crcc0 / 4 % 512 + (crcc_words c).crcc1 / 4 % 512 * 512 ≡ c
register_again c h =
    omega (arith, nine_bits (c % 512) (omega arith), nine_bits (c / 512 % 512) (omega arith))
