-- Laws of a run of characters as symbols.
-- Assumes nothing.
use mathlib.Core.Path.{◌≡◌, refl, ap, ◌∙◌}
use mathlib.Core.List.{List, [], ◌∷◌, ◌++◌}
use Prim.Native.Nat.{ℕ, zero, suc, ◌<◌}
use native.Mathlib.Nat.{le_of_suc-le-suc, not-suc-le-zero}
use lib.ListN.{length, get_or, take}
use Rattle.ground.specs.Written.{upto}
use Rattle.symbol.specs.declared.disparity.Disparity.{Disparity}
use Rattle.symbol.specs.Code.{symbol_of, after_of}
use Rattle.span.specs.Encoding.{symbols_from, after_run}

-- a run and the run after it
pub symbols_append :
    (d : Disparity) (xs ys : List ℕ) → symbols_from d (xs ++ ys) ≡ symbols_from d xs ++ symbols_from (after_run d xs) ys
unfolding symbols_from after_run
symbols_append d [] ys = refl
symbols_append d (x ∷ xs) ys = ap (λ (l : List ℕ). symbol_of d x ∷ l) (symbols_append (after_of d x) xs ys)

pub after_append : (d : Disparity) (xs ys : List ℕ) → after_run d (xs ++ ys) ≡ after_run (after_run d xs) ys
unfolding after_run
after_append d [] ys = refl
after_append d (x ∷ xs) ys = after_append (after_of d x) xs ys

-- as many symbols as characters
pub length_symbols : (d : Disparity) (cs : List ℕ) → length (symbols_from d cs) ≡ length cs
unfolding symbols_from
length_symbols d [] = refl
length_symbols d (c ∷ cs) = ap suc (length_symbols (after_of d c) cs)

-- each is the symbol of its character at the disparity that those before it leave
pub symbol_at_lem :
    (d : Disparity) (cs : List ℕ) (i : ℕ)
    → i < length cs
    → get_or (symbols_from d cs) i 0 ≡ symbol_of (after_run d (take i cs)) (get_or cs i 0)
unfolding symbols_from after_run
symbol_at_lem d [] i h = absurd (not-suc-le-zero h)
symbol_at_lem d (c ∷ cs) zero h = refl
symbol_at_lem d (c ∷ cs) (suc i) h = symbol_at_lem (after_of d c) cs i (le_of_suc-le-suc h)

-- a unit that leaves the disparity as it was, again and again
module _ (d : Disparity) (u : List ℕ) (e : after_run d u ≡ d) where
  pub stays : (n : ℕ) → after_run d (upto n (λ _. u)) ≡ d
  unfolding upto after_run
  stays zero = refl
  stays (suc n) = after_append d (upto n (λ _. u)) u ∙ ap (λ (x : Disparity). after_run x u) (stays n) ∙ e

  pub same_again : (n : ℕ) → symbols_from d (upto n (λ _. u)) ≡ upto n (λ _. symbols_from d u)
  unfolding upto symbols_from
  same_again zero = refl
  same_again (suc n) =
      symbols_append d (upto n (λ _. u)) u
      ∙ ap (λ (x : Disparity). symbols_from d (upto n (λ _. u)) ++ symbols_from x u) (stays n)
      ∙ ap (λ (l : List ℕ). l ++ symbols_from d u) (same_again n)
