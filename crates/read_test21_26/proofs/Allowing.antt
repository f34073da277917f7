-- The look at the picture words: what one turn of it does.
-- Assumes nothing.
use mathlib.Core.Path.{◌≡◌, refl, ap}
use mathlib.Core.Bool.{Bool, true, false, ◌&&◌, and-true}
use mathlib.Core.List.{List, [], ◌∷◌}
use Prim.Native.Nat.{ℕ, ◌+◌, ◌≤◌, ◌<◌}
use lib.ListN.{length, get_or, drop, drop_of_length-le}
use borrow.Author.Tests.{ne_eqb}
use Rattle.ground.proofs.Reading.{next_left_lem}
use Rattle.packing.specs.Sample.{allowed_word}
use Rattle.read_test21_26.specs.Inside.Picture.{all_allowed}

and_assoc : (a b c : Bool) → ((a && b) && c) ≡ (a && (b && c))
and_assoc true b c = refl
and_assoc false b c = refl

-- one word more
pub look_step : (depth : ℕ) (all : Bool) (xs : List ℕ) (i : ℕ) {t : Bool} → i < length xs → t ≡ allowed_word depth (get_or xs i 0)
    → ((all && t) && all_allowed depth (drop (i + 1) xs)) ≡ (all && all_allowed depth (drop i xs))
unfolding all_allowed
look_step depth all xs i {t} h e = rw (e, next_left_lem xs i 0 h) (and_assoc all (allowed_word depth (get_or xs i 0)) (all_allowed depth (drop (i + 1) xs)))

pub look_done : (depth : ℕ) (all : Bool) (xs : List ℕ) (i : ℕ) → length xs ≤ i → (all && all_allowed depth (drop i xs)) ≡ all
unfolding all_allowed
look_done depth all xs i h = rw (drop_of_length-le, and-true)

-- any other depth than ten bits asks what twelve bits do
pub allowed_else : (depth : ℕ) (xs : List ℕ) → (depth ≡ 10 → ⊥) → all_allowed 12 xs ≡ all_allowed depth xs
unfolding all_allowed
allowed_else depth [] n = refl
allowed_else depth (x ∷ xs) n = rw (ne_eqb depth 10 n) (ap (λ (b : Bool). allowed_word 12 x && b) (allowed_else depth xs n))
