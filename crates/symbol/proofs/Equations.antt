-- The book's blocks and the authors' equations are one code: antt computes both for every character at both disparities.
-- Assumes nothing.
use mathlib.Core.Path.{◌≡◌, refl}
use Prim.Native.Nat.{ℕ, ◌<◌}
use lib.Dec.{eqb}
use borrow.Author.Tests.{eqb-true}
use Rattle.symbol.specs.declared.disparity.Disparity.{Disparity}
use Rattle.symbol.specs.Character.{characters}
use Rattle.symbol.specs.Code.{symbol_of, after_of}
use Rattle.symbol.specs.Equations.{symbol_by, after_by}
use Rattle.symbol.proofs.Characters.{at_character, same, same_is}

pub by_equations : (d : Disparity) (c : ℕ) → c < characters → (symbol_by d c ≡ symbol_of d c) × (after_by d c ≡ after_of d c)
unfolding symbol_by after_by symbol_of after_of
by_equations d c h = (
  eqb-true (symbol_by d c) (symbol_of d c) (at_character (λ e k. eqb (symbol_by e k) (symbol_of e k)) refl refl d c h),
  same_is (after_by d c) (after_of d c) (at_character (λ e k. same (after_by e k) (after_of e k)) refl refl d c h),
)
