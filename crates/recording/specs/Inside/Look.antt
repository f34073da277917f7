-- Where a span may begin: a window that is accepted has K28.5 at its first two symbols and at no other.
-- Assumes nothing.
use Rattle.std.specs.Prelude.{ℕ, ◌+◌, ◌-◌, ◌≤◌, ◌<◌, ◌≡◌, Bool, true, false, ◌&&◌, ◌||◌, List, eqb, get_or}
use Rattle.symbol.specs.declared.disparity.Disparity.TheVariants.{Negative, Positive}
use Rattle.symbol.specs.declared.special.Special.TheVariants.{K28_5}
use Rattle.symbol.specs.Character.{number_of}
use Rattle.symbol.specs.Code.{symbol_of}

-- K28.5 in either form; 8B/10B calls the bit sequence in it a comma
unfoldable pub is_comma : ℕ → Bool
is_comma s = eqb s (symbol_of Negative (number_of K28_5)) || eqb s (symbol_of Positive (number_of K28_5))

-- ---- where a span may begin

-- K28.5 is at q and at the next place
abbrev pub begins_at : List ℕ → ℕ → Bool
begins_at r q = is_comma (get_or r q 0) && is_comma (get_or r (q + 1) 0)

-- a span of n symbols may begin at q: K28.5 is there twice, and at no other of the n symbols from q on
pub record MayBegin (n : ℕ) (r : List ℕ) (q : ℕ) : Type 0 where
  pub first : is_comma (get_or r q 0) ≡ true
  pub second : is_comma (get_or r (q + 1) 0) ≡ true
  pub only : (j : ℕ) → q + 2 ≤ j → j < q + n → is_comma (get_or r j 0) ≡ false

-- q is at or after a place, and no span may begin from that place up to q
pub record LookInv (n : ℕ) (r : List ℕ) (from q : ℕ) : Type 0 where
  pub at : from ≤ q
  pub none : (j : ℕ) → from ≤ j → j < q → MayBegin n r j → ⊥

-- no K28.5 stands from one place up to another
pub record Clear (r : List ℕ) (from to : ℕ) : Type 0 where
  pub none : (j : ℕ) → from ≤ j → j < to → is_comma (get_or r j 0) ≡ false

-- the last K28.5 from one place up to another stands just before k; if there is none, k is the first place
pub record LastInv (r : List ℕ) (from to k : ℕ) : Type 0 where
  pub low : from ≤ k
  pub high : k ≤ to
  pub clear : Clear r k to
  pub last : from < k → is_comma (get_or r (k - 1) 0) ≡ true
