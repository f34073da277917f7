-- The CRC of a sum is the sum of the CRCs; a register that runs on over words of zeros.
-- Assumes nothing.
use mathlib.Core.Path.{◌≡◌, refl, sym, ap, ap₂, ◌∙◌}
use mathlib.Core.List.{[], ◌∷◌}
use Prim.Native.Nat.{ℕ, zero, suc, ◌+◌, ◌*◌, ◌/◌, ◌%◌}
use native.Mathlib.Numerals.{add-one}
use native.Mathlib.Omega.{arith}
use Rattle.ground.specs.Written.{upto, table}
use Rattle.ground.specs.Xor.{◌⊕◌}
use Rattle.ground.proofs.Writing.{upto_more}
use Rattle.ground.proofs.Xors.{⊕_zero, ⊕_self, ⊕_middle, ⊕_div, ⊕_mod, ⊕_times}
use Rattle.crcc.specs.Crcc.{bit_step, bit_steps, crc, crc_word}
use Rattle.crcc.specs.Inside.Ahead.{ahead}
use Rattle.crcc.proofs.Crc.{word_step, crc_append}

-- ---- one word

-- a step of a word by its formula
abbrev formed : ℕ → ℕ → ℕ
formed h x = h ⊕ x * 64 ⊕ x * 4 ⊕ x * 2

formed_⊕ : (h k x y : ℕ) → formed (h ⊕ k) (x ⊕ y) ≡ formed h x ⊕ formed k y
formed_⊕ h k x y =
    ap₂ (λ (a b : ℕ). h ⊕ k ⊕ a ⊕ b ⊕ (x ⊕ y) * 2) (⊕_times x y 6) (⊕_times x y 2)
    ∙ ap (λ (a : ℕ). h ⊕ k ⊕ (x * 64 ⊕ y * 64) ⊕ (x * 4 ⊕ y * 4) ⊕ a) (⊕_times x y 1)
    ∙ ap (λ (a : ℕ). a ⊕ (x * 4 ⊕ y * 4) ⊕ (x * 2 ⊕ y * 2)) (⊕_middle h k (x * 64) (y * 64))
    ∙ ap (λ (a : ℕ). a ⊕ (x * 2 ⊕ y * 2)) (⊕_middle (h ⊕ x * 64) (k ⊕ y * 64) (x * 4) (y * 4))
    ∙ ⊕_middle (h ⊕ x * 64 ⊕ x * 4) (k ⊕ y * 64 ⊕ y * 4) (x * 2) (y * 2)

zero_step : (c : ℕ) → formed (c / 4096) (c % 4096) ≡ crc_word c 0
zero_step c = ap (λ (y : ℕ). formed (c / 4096) (y % 4096)) (sym (⊕_zero c)) ∙ word_step c 0

pub step_⊕ : (a b v w : ℕ) → crc_word (a ⊕ b) (v ⊕ w) ≡ crc_word a v ⊕ crc_word b w
step_⊕ a b v w =
    sym (word_step (a ⊕ b) (v ⊕ w))
    ∙ ap₂ (λ (h x : ℕ). formed h x) (⊕_div a b 12) (ap (λ (x : ℕ). x % 4096) (⊕_middle a b v w) ∙ ⊕_mod (a ⊕ v) (b ⊕ w) 12)
    ∙ formed_⊕ (a / 4096) (b / 4096) ((a ⊕ v) % 4096) ((b ⊕ w) % 4096)
    ∙ ap₂ (λ (x y : ℕ). x ⊕ y) (word_step a v) (word_step b w)

zeros_⊕ : (a b : ℕ) → crc_word (a ⊕ b) 0 ≡ crc_word a 0 ⊕ crc_word b 0
zeros_⊕ a b = ap (crc_word (a ⊕ b)) (sym (⊕_zero 0)) ∙ step_⊕ a b 0 0

-- ---- words of zeros

-- by the formula, to be computed
unfoldable pub ahead_by : ℕ → ℕ → ℕ
ahead_by zero c = c
ahead_by (suc n) c = ahead_by n (formed (c / 4096) (c % 4096))

pub ahead_by_lem : (n c : ℕ) → ahead_by n c ≡ ahead n c
unfolding ahead_by ahead
ahead_by_lem zero c = refl
ahead_by_lem (suc n) c = ap (ahead_by n) (zero_step c) ∙ ahead_by_lem n (crc_word c 0)

pub ahead_⊕ : (n a b : ℕ) → ahead n (a ⊕ b) ≡ ahead n a ⊕ ahead n b
unfolding ahead
ahead_⊕ zero a b = refl
ahead_⊕ (suc n) a b = ap (ahead n) (zeros_⊕ a b) ∙ ahead_⊕ n (crc_word a 0) (crc_word b 0)

pub ahead_zero : (n : ℕ) → ahead n 0 ≡ 0
ahead_zero n = ap (ahead n) (sym (⊕_zero 0)) ∙ ahead_⊕ n 0 0 ∙ ⊕_self (ahead n 0)

-- the last word in the place of the first
pub ahead_last : (n c : ℕ) → crc_word (ahead n c) 0 ≡ ahead (suc n) c
unfolding ahead
ahead_last zero c = refl
ahead_last (suc n) c = ahead_last n (crc_word c 0)

-- so many, and so many more
pub ahead_more : (m n c : ℕ) → ahead n (ahead m c) ≡ ahead (m + n) c
unfolding ahead
ahead_more zero n c = let e : n ≡ 0 + n = omega arith in ap (λ (k : ℕ). ahead k c) e
ahead_more (suc m) n c =
    let e : suc (m + n) ≡ suc m + n = omega arith in
    ahead_more m n (crc_word c 0) ∙ ap (λ (k : ℕ). ahead k c) e

-- a bit of zero before words of zeros, or after them
bits_commute : (n c : ℕ) → bit_steps n (bit_step c 0) 0 ≡ bit_step (bit_steps n c 0) 0
unfolding bit_steps
bits_commute zero c = refl
bits_commute (suc n) c = bits_commute n (bit_step c 0)

pub ahead_commutes : (n c : ℕ) → ahead n (bit_step c 0) ≡ bit_step (ahead n c) 0
unfolding ahead
ahead_commutes zero c = refl
ahead_commutes (suc n) c = ap (ahead n) (bits_commute 12 c) ∙ ahead_commutes n (crc_word c 0)

-- ---- a run

-- a word more
pub crc_next : (j : ℕ) (f : ℕ → ℕ) → crc_word (crc 0 (table j f)) (f j) ≡ crc 0 (table (j + 1) f)
unfolding table crc
crc_next j f = crc_append 0 (table j f) (f j ∷ []) ∙ ap (crc 0) (sym (upto_more j (λ k. f k ∷ [])))

crc_nothing : (f : ℕ → ℕ) → crc 0 (table 0 f) ≡ 0
unfolding table upto crc
crc_nothing f = refl

pub crc_sum : (n : ℕ) (f g : ℕ → ℕ) → crc 0 (table n (λ i. f i ⊕ g i)) ≡ crc 0 (table n f) ⊕ crc 0 (table n g)
crc_sum zero f g =
    crc_nothing (λ i. f i ⊕ g i) ∙ sym (ap₂ (λ (x y : ℕ). x ⊕ y) (crc_nothing f) (crc_nothing g) ∙ ⊕_zero 0)
crc_sum (suc n) f g =
    next (λ i. f i ⊕ g i)
    ∙ ap (λ (c : ℕ). crc_word c (f n ⊕ g n)) (crc_sum n f g)
    ∙ step_⊕ (crc 0 (table n f)) (crc 0 (table n g)) (f n) (g n)
    ∙ sym (ap₂ (λ (x y : ℕ). x ⊕ y) (next f) (next g))
  where
    next : (h : ℕ → ℕ) → crc 0 (table (suc n) h) ≡ crc_word (crc 0 (table n h)) (h n)
    next h = ap (λ (k : ℕ). crc 0 (table k h)) (sym (add-one n)) ∙ sym (crc_next n h)
