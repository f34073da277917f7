-- An answer to C tells what the library answered: no two answers cross as the same.
-- Assumes nothing.
use mathlib.Core.Path.{◌≡◌, refl, sym, ap, ◌∙◌}
use mathlib.Core.Bool.{cond}
use Prim.Native.Nat.{ℕ}
use lib.Dec.{eqb}
use Rattle.ground.specs.Answer.{Answer, refused, given}
use Rattle.ground.specs.Inside.Answer.{Injective}
use Rattle.symbol.specs.declared.disparity.Disparity.{Disparity}
use Rattle.symbol.specs.declared.disparity.Disparity.TheVariants.{Negative, Positive}
use Rattle.boundary.specs.Numbers.{disparity_from}
use Rattle.symbol.specs.Disparity.{is_positive}

-- a reading of a reading: where the first is told again from the second, both are one to one
pub through : {A B C : Type 0} {f : A → B} (g : B → C) (h : C → B) → ((a : A) → h (g (f a)) ≡ f a) → Injective f → Injective (λ a. g (f a))
through g h back one a b p = one a b (sym (back a) ∙ ap h p ∙ back b)

-- an answer by its number and place: 0 is no refusal's number
abbrev pub answer_by : {A : Type 0} → ℕ → ℕ → A → Answer A
answer_by number place a = cond (eqb number 0) (given a) (refused number place)

pub disparity_told : (d : Disparity) → disparity_from (is_positive d) ≡ d
disparity_told Negative = refl
disparity_told Positive = refl
