-- An XYZ word as it is received: with at most one wrong bit it is taken for the word that was sent, and with two for none.
-- Assumes nothing.
use mathlib.Core.Path.{◌≡◌, refl, sym, ap, ap₂, ◌∙◌}
use mathlib.Core.Bool.{Bool, true, false, not, true≢false}
use mathlib.Core.Logic.{◌⊎◌, ⊎_elim}
use mathlib.Core.Option.{Option, none, some, get_or}
use Prim.Native.Nat.{ℕ, ◌+◌, ◌*◌, ◌/◌, ◌%◌, ◌≤◌, ◌<◌}
use native.Mathlib.Omega.{arith}
use lib.Dec.{eqb}
use borrow.Author.Tests.{eqb-true, leb-true, not-true}
use Rattle.word.specs.Repair.{distance, differs_at, legal_word, near, nearest}
use Rattle.word.specs.Timing.{timing}
use Rattle.ground.specs.Bit.{bit}
use Rattle.ground.proofs.Searches.{hit}
use Rattle.word.proofs.Repairs.{same_word, nearest_is, nearest_none}
use Rattle.word.proofs.Timings.{timing_below}
use Rattle.window.specs.Tests.{same}
use Rattle.word.specs.Received.{has_h, repaired, v_in, wrong_bits, bit_wrong}

-- two tests that agree
pub same_test : (a b : Bool) → a ≡ b → same a b ≡ true
same_test true b e = sym e
same_test false b e = rw (← e)

pub same_told : (a b : Bool) → same a b ≡ true → a ≡ b
same_told true b t = sym t
same_told false b t = sym (not-true b t)

-- H of the word that is near, where it is the one asked for
h_read : (h : Bool) (o : Option ℕ) → has_h h o ≡ true → eqb (get_or o 0 % 2) 1 ≡ h
h_read h none t = absurd (true≢false (sym t))
h_read true (some vh) t = t
h_read false (some vh) t = rw (eqb-true (vh % 2) 0 t)

-- ---- V and H, as they are sent

-- as one number, by which the legal words are counted
abbrev vh : Bool → Bool → ℕ
vh v h = bit v * 2 + bit h

-- and told again
record Told (v h : Bool) : Type 0 where
  below : vh v h < 4
  v_again : eqb (vh v h / 2) 1 ≡ v
  not_h : has_h (not h) (some (vh v h)) ≡ false
  h_again : eqb (vh v h % 2) (bit h) ≡ true
  legal : legal_word (vh v h) ≡ timing v h

told : (v h : Bool) → Told v h
told false false = record { below = omega arith; v_again = refl; not_h = refl; h_again = refl; legal = refl }
told false true = record { below = omega arith; v_again = refl; not_h = refl; h_again = refl; legal = refl }
told true false = record { below = omega arith; v_again = refl; not_h = refl; h_again = refl; legal = refl }
told true true = record { below = omega arith; v_again = refl; not_h = refl; h_again = refl; legal = refl }

module _ (w : ℕ) (v h : Bool) where
  -- at most one wrong bit: the word sent is the one that is near
  module _ (d : distance w (timing v h) ≤ 1) where
    found : nearest w ≡ some (vh v h)
    found = nearest_is w (vh v h) (told v h).below (rw (told v h).legal d)

    -- so a timing code with the other H has none such (21)
    pub other_h : has_h (not h) (nearest w) ≡ false
    other_h = rw found (told v h).not_h

    -- H and V are those sent, and the repaired word too
    pub near_h : has_h h (nearest w) ≡ true
    near_h = rw found (told v h).h_again

    pub near_v : v_in w ≡ v
    near_v = rw found (told v h).v_again

    pub near_repaired : repaired w ≡ timing v h
    near_repaired = rw found (told v h).legal

  -- two wrong bits: none is
  pub none_near : distance w (timing v h) ≡ 2 → nearest w ≡ none
  none_near d = nearest_none w (vh v h) (told v h).below (rw (told v h).legal d)

-- the same by the numerals of the legal words
module _ (w x : ℕ) where
  abbrev IsRepaired : Type 0
  IsRepaired = (repaired w ≡ x) × (wrong_bits w ≡ distance w x) × ((b : ℕ) → bit_wrong b w ≡ differs_at b w x)

  near_as : (v h : Bool) → x ≡ timing v h → distance w x ≤ 1 → IsRepaired
  near_as v h e d =
      let is : repaired w ≡ x = near_repaired w v h (rw e at d) ∙ sym e in
      (is, ap (distance w) is, λ b. ap (differs_at b w) is)

  pub near_legal : (x ≡ 0x800) ⊎ ((x ≡ 0x9D0) ⊎ ((x ≡ 0xAB0) ⊎ (x ≡ 0xB60))) → distance w x ≤ 1
      → IsRepaired
  unfolding timing
  near_legal =
      ⊎_elim (near_as false false) (⊎_elim (near_as false true) (⊎_elim (near_as true false) (near_as true true)))

-- ---- V and H, as they are read

-- the legal word that is found is near
near_told : (w vh : ℕ) → nearest w ≡ some vh → distance w (legal_word vh) ≤ 1
unfolding nearest
near_told w vh e = leb-true (distance w (legal_word vh)) 1 (hit (near w) 4 vh e).holds

-- so a word that has one with this H is near the word of this H and of its V
pub near_read : (w : ℕ) (h : Bool) → has_h h (nearest w) ≡ true → distance w (timing (v_in w) h) ≤ 1
near_read w h t = go (nearest w) refl t
  where
    go : (o : Option ℕ) → nearest w ≡ o → has_h h o ≡ true → distance w (timing (eqb (get_or o 0 / 2) 1) h) ≤ 1
    go none e t = absurd (true≢false (sym t))
    go (some vh) e t =
        let again : legal_word vh ≡ timing (eqb (vh / 2) 1) h = ap (timing (eqb (vh / 2) 1)) (h_read h (some vh) t) in
        rw again at (near_told w vh e)

module _ (w : ℕ) (v h : Bool) (is_h : has_h h (nearest w) ≡ true) (is-v : same (v_in w) v ≡ true) where
  -- as repaired, it is the word of its V and H
  pub repaired_is : repaired w ≡ timing v h
  repaired_is = ap₂ timing (same_told (v_in w) v is-v) (h_read h (nearest w) is_h)

  -- and so it is as it stands, where no bit of it is wrong
  pub whole_timing : w < 4096 → wrong_bits w ≡ 0 → w ≡ timing v h
  whole_timing small e = same_word w (repaired w) small (timing_below _ _) e ∙ repaired_is
