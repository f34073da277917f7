-- A test of every character at both disparities, as a rule.
-- Assumes nothing.
use mathlib.Core.Path.{◌≡◌, refl}
use mathlib.Core.Bool.{Bool, true, false}
use Prim.Native.Nat.{ℕ, ◌<◌}
use native.Mathlib.Omega.{arith}
use lib.Dec.{eqb}
use Rattle.ground.specs.Inside.Test.{every_below}
use Rattle.ground.proofs.Tests.{at_number}
use Rattle.symbol.specs.declared.disparity.Disparity.{Disparity}
use Rattle.symbol.specs.declared.disparity.Disparity.TheVariants.{Negative, Positive}
use Rattle.symbol.specs.Character.{characters}
use Rattle.ground.specs.Bit.{bit}

pub at_character : (f : Disparity → ℕ → Bool) → every_below characters (f Negative) ≡ true → every_below characters (f Positive) ≡ true
    → (d : Disparity) (c : ℕ) → c < characters → f d c ≡ true
at_character f n p Negative c h = at_number characters (f Negative) n c h
at_character f n p Positive c h = at_number characters (f Positive) p c h

-- two disparities compared
abbrev pub same : Disparity → Disparity → Bool
same Negative Negative = true
same Negative Positive = false
same Positive Negative = false
same Positive Positive = true

pub same_is : (d e : Disparity) → same d e ≡ true → d ≡ e
same_is Negative Negative t = refl
same_is Negative Positive t = cc
same_is Positive Negative t = cc
same_is Positive Positive t = refl

-- a test kept as a bit
pub bit_is : (t : Bool) → eqb (bit t) 1 ≡ t
bit_is true = refl
bit_is false = refl

pub bit_below : (t : Bool) → bit t < 2
bit_below true = omega arith
bit_below false = omega arith
