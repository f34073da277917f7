-- Two numbers that are both words, and two that are not.
-- Assumes nothing.
use mathlib.Core.Path.{◌≡◌}
use mathlib.Core.Bool.{true, false, ◌&&◌}
use mathlib.Core.Logic.{◌⊎◌, inl, inr}
use Prim.Native.Nat.{ℕ, ◌≤◌, ◌<◌}
use native.Mathlib.Omega.{arith}
use lib.Dec.{ltb}
use borrow.Author.Tests.{lt-ltb, le-ltb}
use Rattle.ground.proofs.Cases.{on_test}
use Rattle.word.specs.Word.{is_word}

pub both_words : (a b : ℕ) → a ≤ 4095 → b ≤ 4095 → (is_word a && is_word b) ≡ true
both_words a b p q =
    let h : a < 4096 = omega arith in
    let l : b < 4096 = omega arith in
    simp (lt-ltb a 4096 h, lt-ltb b 4096 l)

pub not_both_words : (a b : ℕ) → (4095 < a) ⊎ (4095 < b) → (is_word a && is_word b) ≡ false
not_both_words a b (inl h) = simp (le-ltb a 4096 h)
not_both_words a b (inr h) = on_test (ltb a 4096) (λ t. simp (t, le-ltb b 4096 h)) (λ t. simp t)
