-- The samples that a line may carry, as a range and a factor.
-- Assumes nothing.
use mathlib.Core.Path.{◌≡◌, refl, sym, ◌∙◌}
use mathlib.Core.Bool.{Bool, true, false}
use mathlib.Core.Logic.{⊎_elim}
use Prim.Native.Nat.{ℕ, ◌*◌, ◌≤◌, ◌<◌}
use native.Mathlib.Omega.{arith}
use lib.Dec.{eqb}
use borrow.Author.Tests.{eq-eqb, ne_eqb, eqb-true}
use Rattle.ground.specs.Range.{within}
use Rattle.ground.proofs.Cases.{on_test}
use Rattle.ground.proofs.Ranges.{is_within, from_low, to_high}
use Rattle.line.specs.Stream.{is_active}
use Rattle.span.specs.declared.format.Format.{Format}
use Rattle.span.specs.Format.{is_difference}
use Rattle.span.specs.Numbers.{IsFormat}
use Rattle.span.specs.Sample.{blank_word, allowed, sample_word}
use Rattle.span.specs.Inside.Sample.{bounds_of}

-- two tests that hold together are the same
same_test : (a b : Bool) → (a ≡ true → b ≡ true) → (b ≡ true → a ≡ true) → a ≡ b
same_test true b p q = sym (p refl)
same_test false true p q = q refl
same_test false false p q = refl

-- one number alone
one_number : (b x : ℕ) → eqb x b ≡ within b b x
one_number b x =
    same_test (eqb x b) (within b b x)
    (λ t. let e : x ≡ b = eqb-true x b t in is_within b b x (omega arith) (omega arith))
    (λ t. eq-eqb x b (omega (arith, from_low _ _ _ t, to_high _ _ _ t)))

-- the blanking word has twelve bits
pub blank_below : (f : Format) → blank_word f < 4096
blank_below f = on_test (is_difference f) (λ t. simp t (omega arith)) (λ t. simp t (omega arith))

module _ (f : Format) (k : IsFormat f) (n t x : ℕ) where
  pub allowed_is : allowed f n t x ≡ within (bounds_of f n).low (bounds_of f n).high x
  allowed_is =
      on_test (is_active n)
      (λ active.
      ⊎_elim
      (λ e. simp (active, eq-eqb f.depth 10 e))
      (λ e.
      let not-ten : f.depth ≡ 10 → ⊥ = λ ten. omega arith in
      simp (active, ne_eqb f.depth 10 not-ten))
      k.bits)
      (λ blanking. simp blanking (one_number (blank_word f) x))

  high_is : allowed f n t x ≡ true → x ≤ (bounds_of f n).high
  high_is ok = to_high _ _ _ (sym allowed_is ∙ ok)

  -- a sample that is allowed makes a word of twelve bits
  pub word_below : allowed f n t x ≡ true → x * (bounds_of f n).factor < 4096
  word_below ok =
      on_test (is_active n)
      (λ active.
      on_test (eqb f.depth 10)
      (λ ten. let h : x ≤ 1019 = simp (active, ten) at (high_is ok) in simp (active, ten) (omega arith))
      (λ twelve. let h : x ≤ 4079 = simp (active, twelve) at (high_is ok) in simp (active, twelve) (omega arith)))
      (λ blanking. let h : x ≤ blank_word f = simp blanking at (high_is ok) in simp blanking (omega (arith, h, blank_below f)))

  -- and that word is sent for it
  pub word_is : allowed f n t x ≡ true → sample_word f n t x ≡ x * (bounds_of f n).factor
  word_is ok =
      on_test (is_active n)
      (λ active.
      on_test (eqb f.depth 10)
      (λ ten. let h : x * 4 < 4096 = simp (active, ten) at (word_below ok) in simp (active, ten) (omega arith))
      (λ twelve. let h : x * 1 < 4096 = simp (active, twelve) at (word_below ok) in simp (active, twelve) (omega arith)))
      (λ blanking. simp blanking (omega arith))
