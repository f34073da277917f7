-- VH of the legal word that is near a timing word, if there is one.
-- Assumes nothing.
use mathlib.Core.Path.{◌≡◌, refl, sym, ap, ◌∙◌}
use mathlib.Core.Bool.{Bool, false}
use mathlib.Core.Option.{Option, none, some, get_or}
use Prim.Native.Nat.{ℕ, zero, suc, ◌+◌, ◌/◌, ◌%◌, ◌^◌, ◌≤◌, ◌<◌}
use native.Mathlib.Nat.{pow-suc}
use native.Mathlib.Omega.{arith}
use lib.Count.{ones_in, ones, ones_step}
use lib.Dec.{eqb}
use Rattle.std.specs.Prelude.{Option as Answered, Some, None, unwrap_or}
use borrow.Author.Tests.{lt-ltb, le-ltb}
use Rattle.ground.specs.Xor.{◌⊕◌}
use Rattle.ground.specs.Answer.{refused, given, told}
use Rattle.ground.proofs.Bits.{ones_low}
use Rattle.ground.proofs.Searches.{hit}
use Rattle.word.specs.declared.repair.Repaired.{Repaired}
use Rattle.word.specs.Repair.{distance, legal_word, near, nearest, repaired_to, repair_of}
use Rattle.word.specs.Timing.{timing}
use Rattle.ground.specs.Bit.{bit}
use Rattle.word.specs.Received.{has_h, is_timing, repaired, v_in, wrong_bits}

-- ---- out of the repair of a word

below : (w vh : ℕ) → nearest w ≡ some vh → vh < 4
unfolding nearest
below w vh e = (hit (near w) 4 vh e).below

-- V and H stand next to each other in the word
vh_again : (vh : ℕ) → vh < 4 → legal_word vh / 256 % 4 ≡ vh
unfolding timing
vh_again zero h = refl
vh_again (suc zero) h = refl
vh_again (suc (suc zero)) h = refl
vh_again (suc (suc (suc zero))) h = refl
vh_again (suc (suc (suc (suc vh)))) h = absurd (omega arith)

module _ (w : ℕ) (h : w < 4096) where
  is_given : (vh : ℕ) → nearest w ≡ some vh → repair_of w ≡ given (repaired_to w (legal_word vh))
  is_given vh e = simp (lt-ltb w 4096 h, e)

  is_refused : nearest w ≡ none → repair_of w ≡ refused 8 0
  is_refused e = simp (lt-ltb w 4096 h, e)

  pub word_near : (r : Repaired) → given r ≡ repair_of w → some (r.word / 256 % 4) ≡ nearest w
  word_near r q = go (nearest w) refl
    where
      go : (o : Option ℕ) → nearest w ≡ o → some (r.word / 256 % 4) ≡ nearest w
      go none e = let z : ◌≡◌ {A = ℕ} 0 1 = cc (q ∙ is_refused e) in absurd (omega arith)
      go (some vh) e =
          let same : r ≡ repaired_to w (legal_word vh) = cc (q ∙ is_given vh e) in
          let is : r.word / 256 % 4 ≡ vh = ap (λ (x : Repaired). x.word / 256 % 4) same ∙ vh_again vh (below w vh e) in
          ap some is ∙ sym e

  pub none_near : (number : ℕ) → refused number 0 ≡ repair_of w → none ≡ nearest w
  none_near number q = go (nearest w) refl
    where
      go : (o : Option ℕ) → nearest w ≡ o → none ≡ nearest w
      go none e = sym e
      go (some vh) e = let z : ◌≡◌ {A = ℕ} 0 1 = cc (q ∙ is_given vh e) in absurd (omega arith)

-- ---- what it tells

module _ (w : ℕ) (h : Bool) (j : ℕ) where
  pub first_word : j ≡ 0 → eqb w 0xFFF ≡ is_timing h j w
  first_word e = rw e

  pub other_words : (j ≡ 0 → ⊥) → j < 3 → eqb w 0x000 ≡ is_timing h j w
  other_words x l = go j x l
    where
      go : (j : ℕ) → (j ≡ 0 → ⊥) → j < 3 → eqb w 0x000 ≡ is_timing h j w
      go zero x l = absurd (x refl)
      go (suc zero) x l = refl
      go (suc (suc zero)) x l = refl
      go (suc (suc (suc j))) x l = absurd (omega arith)

  module _ (l : 3 ≤ j) where
    xyz : is_timing h j w ≡ has_h h (nearest w)
    xyz = rw (le-ltb j 3 l)

    pub no_timing : none ≡ nearest w → false ≡ is_timing h j w
    no_timing is = rw (← is) refl ∙ sym xyz

    pub is_h : {v : ℕ} → some v ≡ nearest w → eqb (v % 2) (bit h) ≡ is_timing h j w
    is_h is = rw (← is) refl ∙ sym xyz

-- as code has it: the VH that is told, and 0 for none
module _ (w : ℕ) (o : Answered ℕ) (is : told o ≡ nearest w) where
  vh_told : unwrap_or o 0 ≡ get_or (nearest w) 0
  vh_told = go o ∙ ap (λ (x : Option ℕ). get_or x 0) is
    where
      go : (o : Answered ℕ) → unwrap_or o 0 ≡ get_or (told o) 0
      go None = refl
      go (Some vh) = refl

  pub v_told : {v : ℕ} → v ≡ unwrap_or o 0 → eqb (v / 2) 1 ≡ v_in w
  v_told e = ap (λ (x : ℕ). eqb (x / 2) 1) (e ∙ vh_told)

  pub repaired_told : {v : ℕ} → v ≡ unwrap_or o 0 → timing (eqb (v / 2) 1) (eqb (v % 2) 1) ≡ repaired w
  repaired_told e = ap (λ (x : ℕ). timing (eqb (x / 2) 1) (eqb (x % 2) 1)) (e ∙ vh_told)

-- ---- the wrong bits

-- the ones of a number are those of as many bits as it has
ones_are : (d n : ℕ) → n < 2 ^ d → ones n ≡ ones_in d n
unfolding ones_in ones
ones_are zero n h = let z : n ≡ 0 = omega arith in rw z
ones_are (suc d) n h =
    let half : n / 2 < 2 ^ d = omega (arith, rw pow-suc at h) in ones_step n ∙ ap (λ (x : ℕ). n % 2 + x) (ones_are d (n / 2) half)

few_ones : (d n : ℕ) → ones_in d n ≤ d
unfolding ones_in
few_ones zero n = omega arith
few_ones (suc d) n = omega (arith, few_ones d (n / 2))

module _ {x : ℕ} (w : ℕ) (is : x ≡ w ⊕ repaired w) where
  pub bits_told : ones (x % 4096) ≡ wrong_bits w
  unfolding distance
  bits_told = ones_are 12 (x % 4096) (omega arith) ∙ ones_low 12 x ∙ ap (ones_in 12) is

  pub few_bits : ones (x % 4096) ≤ 12
  few_bits = rw (ones_are 12 (x % 4096) (omega arith)) (few_ones 12 (x % 4096))
