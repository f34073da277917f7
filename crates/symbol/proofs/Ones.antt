-- The ones of a symbol, and the disparity after it.
-- Assumes nothing.
use mathlib.Core.Path.{◌≡◌, refl, ap, sym, ◌∙◌}
use mathlib.Core.Bool.{Bool, true, false}
use Prim.Native.Nat.{ℕ, ◌≤◌, ◌<◌}
use native.Mathlib.Omega.{arith}
use lib.Count.{ones_in}
use lib.Dec.{eqb, ltb}
use borrow.Author.Tests.{eqb-true, ltb-true}
use Rattle.symbol.specs.declared.disparity.Disparity.{Disparity}
use Rattle.symbol.specs.declared.disparity.Disparity.TheVariants.{Negative, Positive}
use Rattle.symbol.specs.Character.{characters}
use Rattle.symbol.specs.Code.{symbol_of, after_of}
use Rattle.symbol.specs.Inside.Code.{flips}
use Rattle.symbol.specs.Inside.Disparity.{flipped_if}
use Rattle.symbol.proofs.Characters.{at_character, same, same_is}

-- A symbol has ten bits.
pub symbol_below : (d : Disparity) (c : ℕ) → c < characters → symbol_of d c < 1024
unfolding symbol_of
symbol_below d c h = ltb-true (symbol_of d c) 1024 (at_character (λ e k. ltb (symbol_of e k) 1024) refl refl d c h)

-- how many ones stand between a disparity before and one after
abbrev pub ones_between : Disparity → Disparity → ℕ
ones_between Negative Negative = 5
ones_between Negative Positive = 6
ones_between Positive Negative = 4
ones_between Positive Positive = 5

-- The disparity after a symbol is told by its ones.
pub ones_of : (d : Disparity) (c : ℕ) → c < characters → ones_in 10 (symbol_of d c) ≡ ones_between d (after_of d c)
unfolding symbol_of after_of ones_in
ones_of d c h =
    eqb-true (ones_in 10 (symbol_of d c)) (ones_between d (after_of d c))
    (at_character (λ e k. eqb (ones_in 10 (symbol_of e k)) (ones_between e (after_of e k))) refl refl d c h)

-- Every symbol of a character has four to six ones.
pub four_to_six : (d : Disparity) (c : ℕ) → c < characters → (4 ≤ ones_in 10 (symbol_of d c)) × (ones_in 10 (symbol_of d c) ≤ 6)
four_to_six d c h = rw (ones_of d c h) (bounds d (after_of d c))
  where
    bounds : (d e : Disparity) → (4 ≤ ones_between d e) × (ones_between d e ≤ 6)
    bounds Negative Negative = omega arith
    bounds Negative Positive = omega arith
    bounds Positive Negative = omega arith
    bounds Positive Positive = omega arith

-- A character flips the disparity at both disparities or at neither.
pub flips_both : (d : Disparity) (c : ℕ) → c < characters → after_of d c ≡ flipped_if (flips c) d
unfolding after_of flips
flips_both d c h =
    same_is (after_of d c) (flipped_if (flips c) d) (at_character (λ e k. same (after_of e k) (flipped_if (flips k) e)) refl refl d c h)

-- So the ones of a symbol are told by the disparity before it and by whether its character flips it.
pub ones_by : (d : Disparity) (c : ℕ) → c < characters → ones_in 10 (symbol_of d c) ≡ ones_between d (flipped_if (flips c) d)
ones_by d c h = ones_of d c h ∙ ap (ones_between d) (flips_both d c h)

-- A character whose two forms are the same leaves the disparity as it was.
pub one_form_stays : (d : Disparity) (c : ℕ) → c < characters → symbol_of Negative c ≡ symbol_of Positive c → after_of d c ≡ d
one_form_stays d c h e =
    flips_both d c h ∙ stays (flips c) (sym (ones_by Negative c h) ∙ ap (ones_in 10) e ∙ ones_by Positive c h) d
  where
    stays : (t : Bool) → ones_between Negative (flipped_if t Negative) ≡ ones_between Positive (flipped_if t Positive) → (d : Disparity) → flipped_if t d ≡ d
    stays true q d = absurd (omega arith)
    stays false q d = refl
