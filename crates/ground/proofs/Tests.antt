-- A computed test as a rule at each entry of a table, or at each number of a range.
-- Assumes nothing.
use mathlib.Core.Path.{◌≡◌, refl}
use mathlib.Core.Bool.{Bool, true, false, ◌&&◌}
use mathlib.Core.List.{List, [], ◌∷◌}
use Prim.Native.Nat.{ℕ, zero, suc, ◌+◌, ◌<◌}
use native.Mathlib.Nat.{add-zero, zero-add, add-suc, suc-add, le_of_suc-le-suc, not-suc-le-zero}
use lib.ListN.{length, get_or, replicate, length-replicate}
use Rattle.ground.specs.Inside.Test.{every_at, every_below}

pub both_left : (a b : Bool) → (a && b) ≡ true → a ≡ true
both_left true b t = refl
both_left false b t = t

pub both_right : (a b : Bool) → (a && b) ≡ true → b ≡ true
both_right true b t = t
both_right false b t = cc

from : (f : ℕ → ℕ → Bool) (xs : List ℕ) (i : ℕ) → every_at f i xs ≡ true → (k : ℕ) → k < length xs → f (i + k) (get_or xs k 0) ≡ true
from f [] i t k h = absurd (not-suc-le-zero h)
from f (x ∷ xs) i t zero h = rw add-zero (both_left (f i x) (every_at f (suc i) xs) t)
from f (x ∷ xs) i t (suc k) h =
    rw (add-suc, ← (suc-add i k)) (from f xs (suc i) (both_right (f i x) (every_at f (suc i) xs) t) k (le_of_suc-le-suc h))

pub at_entry : (f : ℕ → ℕ → Bool) (xs : List ℕ) → every_at f 0 xs ≡ true → (k : ℕ) → k < length xs → f k (get_or xs k 0) ≡ true
at_entry f xs t k h = rw zero-add at (from f xs 0 t k h)

pub at_number : (n : ℕ) (f : ℕ → Bool) → every_below n f ≡ true → (k : ℕ) → k < n → f k ≡ true
at_number n f t k h = at_entry (λ i _. f i) (replicate n 0) t k (rw length-replicate h)
