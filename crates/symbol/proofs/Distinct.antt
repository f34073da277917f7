-- No two characters share a symbol, at one disparity or at two: from its symbols each character is told again.
-- Assumes nothing.
use mathlib.Core.Path.{◌≡◌, refl, sym, ap, ◌∙◌}
use mathlib.Core.Bool.{Bool, true, cond}
use Prim.Native.Nat.{ℕ, zero, suc, ◌+◌, ◌*◌, ◌/◌, ◌%◌, ◌^◌, ◌<◌}
use lib.Dec.{eqb}
use borrow.Author.Tests.{eqb-true}
use Rattle.ground.specs.Inside.Test.{every_below}
use Rattle.symbol.specs.declared.disparity.Disparity.{Disparity}
use Rattle.symbol.specs.declared.disparity.Disparity.TheVariants.{Negative, Positive}
use Rattle.symbol.specs.Character.{characters}
use Rattle.symbol.specs.Code.{symbol_of}
use Rattle.symbol.proofs.Characters.{at_character}

-- each character below n, put at the places of its two symbols, in one number that has nine bits for each place
placed : ℕ → ℕ
placed zero = 0
placed (suc c) =
    placed c
    + c * 512 ^ symbol_of Negative c
    + cond (eqb (symbol_of Negative c) (symbol_of Positive c)) 0 (c * 512 ^ symbol_of Positive c)

-- the character at the place of symbol s
at_place : ℕ → ℕ → ℕ
at_place l s = l / 512 ^ s % 512

-- each character stands where its symbol says
told : ℕ → Disparity → ℕ → Bool
told l d c = eqb (at_place l (symbol_of d c)) c

tested : (d : Disparity) → (let l = placed characters in every_below characters (told l d)) ≡ true
unfolding placed at_place told symbol_of
tested Negative = refl
tested Positive = refl

pub one_character : (d e : Disparity) (b c : ℕ) → b < characters → c < characters → symbol_of d b ≡ symbol_of e c → b ≡ c
unfolding told
one_character d e b c p q same = sym (again d b p) ∙ ap (at_place (placed characters)) same ∙ again e c q
  where
    again : (d : Disparity) (c : ℕ) → c < characters → at_place (placed characters) (symbol_of d c) ≡ c
    again d c h =
        eqb-true (at_place (placed characters) (symbol_of d c)) c
        (at_character (told (placed characters)) (tested Negative) (tested Positive) d c h)
