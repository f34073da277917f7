-- Document 01's own numbers are what the table of formats gives.
-- Assumes nothing.
use mathlib.Core.Path.{◌≡◌, refl, sym, ap, ◌∙◌}
use mathlib.Core.Bool.{true, false}
use mathlib.Core.Logic.{inl, inr, ⊎_elim}
use Prim.Native.Nat.{ℕ, zero, suc, ◌≤◌}
use native.Mathlib.Omega.{arith}
use lib.Dec.{leb}
use borrow.Author.Tests.{leb-true, leb-false}
use Rattle.ground.proofs.Cases.{on_test}
use Rattle.ground.proofs.Ranges.{is_within, not_within}
use Rattle.span.specs.declared.format.Format.{Format}
use Rattle.span.specs.Format.{is_difference, numbered, shape_of, samples_in, symbols_in}
use Rattle.span.specs.Numbers.{IsFormat, Of, Symbols, Samples, Blank}
use Rattle.span.specs.Sample.{blank_word}

module _ (g : ℕ → ℕ) where
  pub is_of_lem : (n x : ℕ) → Of (g 1) (g 2) (g 3) n x → x ≡ g n
  is_of_lem n x =
      ⊎_elim (λ t. t.1 ∙ ap g (sym t.0)) (⊎_elim (λ t. t.1 ∙ ap g (sym t.0)) (λ t. t.1 ∙ ap g (sym t.0)))

  pub of_is : (n x : ℕ) → 1 ≤ n → n ≤ 3 → x ≡ g n → Of (g 1) (g 2) (g 3) n x
  of_is zero x p q e = absurd (omega arith)
  of_is (suc zero) x p q e = inl (refl, e)
  of_is (suc (suc zero)) x p q e = inr (inl (refl, e))
  of_is (suc (suc (suc zero))) x p q e = inr (inr (refl, e))
  of_is (suc (suc (suc (suc n)))) x p q e = absurd (omega arith)

module _ (f : Format) (x : ℕ) where
  -- the symbols of a span, and its samples
  pub symbols_are : Symbols f x → x ≡ symbols_in (shape_of f)
  unfolding shape_of
  symbols_are = is_of_lem (λ n. symbols_in (numbered n)) f.number x

  pub samples_are : Samples f x → x ≡ samples_in (shape_of f)
  unfolding shape_of
  samples_are = is_of_lem (λ n. samples_in (numbered n)) f.number x

  module _ (known : IsFormat f) where
    pub symbols_told : x ≡ symbols_in (shape_of f) → Symbols f x
    unfolding shape_of
    symbols_told = of_is (λ n. symbols_in (numbered n)) f.number x known.from known.to

    pub samples_told : x ≡ samples_in (shape_of f) → Samples f x
    unfolding shape_of
    samples_told = of_is (λ n. samples_in (numbered n)) f.number x known.from known.to

-- the blanking word, and no other
module _ (f : Format) (known : IsFormat f) where
  is_100 : f.component ≤ 4 → blank_word f ≡ 0x100
  is_100 h = let t : is_difference f ≡ false = not_within _ _ f.component (λ p q. omega arith) in simp t (omega arith)

  is_800 : 5 ≤ f.component → blank_word f ≡ 0x800
  is_800 h = let t : is_difference f ≡ true = is_within _ _ f.component (omega arith) (omega (arith, known.component.1)) in simp t (omega arith)

  pub blank_told : (x : ℕ) → x ≡ blank_word f → Blank f x
  blank_told x e = record { is100 = λ h. e ∙ is_100 (omega arith); is800 = λ h. e ∙ is_800 (omega arith) }

  pub blank_is : (x : ℕ) → Blank f x → x ≡ blank_word f
  blank_is x b =
      on_test (leb f.component 4)
      (λ t. let h = leb-true f.component 4 t in b.is100 (omega arith) ∙ sym (is_100 h))
      (λ t. let h : 5 ≤ f.component = omega (arith, leb-false f.component 4 t) in b.is800 (omega arith) ∙ sym (is_800 h))
