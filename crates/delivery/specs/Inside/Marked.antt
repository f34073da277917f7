-- What a reading of windows must satisfy so that no window can begin inside another: the part that only loops and proofs use. The rest
-- is in specs/Marked.
-- Assumes nothing.
use Rattle.std.specs.Prelude.{ℕ, ◌≤◌, ◌<◌, ◌≡◌, Bool, true, List, length, get_or}
use Rattle.std.proofs.Math.Option.{Option, some}

-- only windows of n symbols are read
pub record Whole {A : Type 0} (n : ℕ) (read : List ℕ → Option A) : Type 0 where
  pub least : 1 ≤ n
  pub long : (w : List ℕ) (a : A) → read w ≡ some a → length w ≡ n

-- they are marked at their first two symbols and nowhere else
pub record Marked {A : Type 0} (n : ℕ) (read : List ℕ → Option A) (mark : ℕ → Bool) : Type 0 where
  pub three : 3 ≤ n
  pub whole : Whole n read
  pub first : (w : List ℕ) (a : A) → read w ≡ some a → mark (get_or w 0 0) ≡ true
  pub second : (w : List ℕ) (a : A) → read w ≡ some a → mark (get_or w 1 0) ≡ true
  pub only : (w : List ℕ) (a : A) → read w ≡ some a → (i : ℕ) → i < n → mark (get_or w i 0) ≡ true → i < 2
