-- The number and the place that cross, out of what the demands say is answered.
-- Assumes nothing.
use mathlib.Core.Path.{◌≡◌, refl}
use mathlib.Core.List.{List, [], ◌∷◌}
use mathlib.Core.Option.{Option, none, some}
use Prim.Native.Nat.{ℕ, ◌≤◌}
use native.Mathlib.Omega.{arith}
use Rattle.ground.specs.Answer.{Answer, refused, given, Row, or_else, checked}
use Rattle.demands.specs.Form.{Refusal, Tried}
use Rattle.face.specs.Face.{Told}

-- rows whose place is always 0
abbrev pub Placeless : List Refusal → Type 0
Placeless [] = Unit
Placeless (x ∷ xs) = x.place 0 × Placeless xs

-- tests whose refusals have numbers from 1 on
abbrev pub Numbered : List Row → Type 0
Numbered [] = Unit
Numbered (r ∷ rs) = (1 ≤ r.number) × Numbered rs

module _ {A C : Type 0} (cross : Answer A → C) (number : C → ℕ) (told : (n p : ℕ) → number (cross (refused n p)) ≡ n)
    (good : (a : A) → number (cross (given a)) ≡ 0) where
  -- what is answered by such rows crosses as its number
  pub crosses : (r : Answer A) (xs : List Refusal) → Placeless xs → Tried r xs → Told (number (cross r)) 0 xs
  crosses r [] here (a, e) = rw e (good a, refl)
  crosses r (x ∷ xs) (here, others) (bad, on) = (
    λ b. let (k, p, e) = bad b in rw e (told x.number k, here),
    λ g. crosses r xs others (on g),
  )

  -- 0 crosses only where the result is given
  pub good_by_number : (rs : List Row) (a : A) → Numbered rs → number (cross (checked rs a)) ≡ 0 → checked rs a ≡ given a
  good_by_number [] a above e = refl
  good_by_number (r ∷ rs) a (one, above) e = go r.fails e (good_by_number rs a above)
    where
      go : (o : Option ℕ) → number (cross (or_else o r.number (checked rs a))) ≡ 0
          → (number (cross (checked rs a)) ≡ 0 → checked rs a ≡ given a)
          → or_else o r.number (checked rs a) ≡ given a
      go none e on = on e
      go (some k) e on = absurd (omega (arith, one, told r.number k, e))

  module _ (place : C → ℕ) (placed : (n p : ℕ) → place (cross (refused n p)) ≡ p) (nowhere : (a : A) → place (cross (given a)) ≡ 0) where
    -- and by any rows as its number and its place
    pub crosses_placed : (r : Answer A) (xs : List Refusal) → Tried r xs → Told (number (cross r)) (place (cross r)) xs
    crosses_placed r [] (a, e) = rw e (good a, nowhere a)
    crosses_placed r (x ∷ xs) (bad, on) = (
      λ b. let (k, p, e) = bad b in rw e (told x.number k, rw (placed x.number k) p),
      λ g. crosses_placed r xs (on g),
    )
