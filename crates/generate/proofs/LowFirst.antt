-- Symbols as bytes: read again, one after the other, and a run after a run.
-- Assumes nothing.
use mathlib.Core.Path.{◌≡◌, refl, sym, ap, ap₂, ◌∙◌}
use mathlib.Core.List.{List, [], ◌∷◌, ◌++◌}
use Prim.Native.Nat.{ℕ, zero, suc, ◌+◌, ◌*◌, ◌/◌, ◌%◌, ◌≤◌, ◌<◌}
use native.Mathlib.Nat.{le_of_suc-le-suc, not-suc-le-zero}
use native.Mathlib.Omega.{arith}
use lib.ListN.{length, get_or, set, drop, drop_of_length-le}
use lib.Seq.{sets}
use Rattle.ground.proofs.Reading.{next_left_lem}
use Rattle.ground.proofs.Writing.{sets_whole, is_table}
use Rattle.text.specs.Words.{word_in_bytes, words_in_bytes}
use Rattle.generate.specs.Generated.{low_first}

word_again : (l : List ℕ) (i : ℕ) → i < length l → get_or l i 0 ≡ word_in_bytes (low_first l) i
unfolding low_first
word_again [] i h = absurd (not-suc-le-zero h)
word_again (x ∷ l) zero h = omega arith
word_again (x ∷ l) (suc i) h =
    let bytes = low_first (x ∷ l) in
    let low : suc (suc (2 * i)) ≡ 2 * suc i = omega arith in
    let high : suc (suc (2 * i + 1)) ≡ 2 * suc i + 1 = omega arith in
    word_again l i (le_of_suc-le-suc h) ∙ ap₂ (λ (j k : ℕ). get_or bytes j 0 + get_or bytes k 0 * 256) low high

-- the words that a program reads from these bytes are the symbols
pub read_again_lem : (l : List ℕ) → words_in_bytes (length l) (low_first l) ≡ l
read_again_lem l = sym (is_table (length l) (word_in_bytes (low_first l)) 0 l refl (word_again l))

-- ---- a run after a run, and how long it is

pub low_append : (a b : List ℕ) → low_first (a ++ b) ≡ low_first a ++ low_first b
unfolding low_first
low_append [] b = refl
low_append (x ∷ a) b = ap (λ (l : List ℕ). x % 256 ∷ x / 256 ∷ l) (low_append a b)

length_low : (l : List ℕ) → length (low_first l) ≡ 2 * length l
unfolding low_first
length_low [] = refl
length_low (x ∷ l) = let e = length_low l in omega arith

-- ---- the loop: what is left of the bytes, put into what is there, gives the whole

module _ (l : List ℕ) (out : List ℕ) where
  pub all_left : length out ≡ 2 * length l → sets out (2 * 0) (low_first (drop 0 l)) ≡ low_first l
  all_left e = sets_whole out (low_first l) (length_low l ∙ sym e)

  pub one_put :
      (i low high : ℕ) → i < length l → low ≡ get_or l i 0 % 256 → high ≡ get_or l i 0 / 256
      → sets (set (set out (2 * i) low) (2 * i + 1) high) (2 * (i + 1)) (low_first (drop (i + 1) l)) ≡ sets out (2 * i) (low_first (drop i l))
  unfolding low_first
  one_put i low high h p q =
      let next : 2 * i + 1 ≡ suc (2 * i) = omega arith in
      let end : 2 * (i + 1) ≡ suc (suc (2 * i)) = omega arith in
      rw (p, q, next, end) (ap (λ (m : List ℕ). sets out (2 * i) (low_first m)) (sym (next_left_lem l i 0 h)))

  pub none_left : (i : ℕ) → length l ≤ i → sets out (2 * i) (low_first (drop i l)) ≡ out
  unfolding low_first
  none_left i h = ap (λ (m : List ℕ). sets out (2 * i) (low_first m)) (drop_of_length-le l h)
