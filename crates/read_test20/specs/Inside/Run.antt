-- Symbols run through the decoding table one after another, at the running disparity, and test 20 over a whole window.
-- Assumes nothing.
use Rattle.std.specs.Prelude.{◌≡◌, ℕ, ◌%◌, ◌≤◌, ◌<◌, Bool, true, not, ◌&&◌, List, length}
use Rattle.std.proofs.Math.Option.{get_or}
use Rattle.ground.specs.Range.{within}
use Rattle.ground.specs.Search.{first_below, is_some}
use Rattle.symbol.specs.declared.disparity.Disparity.{Disparity}
use Rattle.symbol.specs.Code.{char_of}
use Rattle.decoder.specs.Inside.Mask.{legal_by, mask_of}
use Rattle.span.specs.declared.format.Shape.{Shape}
use Rattle.window.specs.Scan.{meant, symbol_at, start_of, running_at, fits, holds20}

-- an entry that is legal at the disparity of a mask bit, with a character number from low to high
abbrev pub suits_by : ℕ → ℕ → ℕ → ℕ → Bool
suits_by low high mask e = legal_by mask e && within low high (e % 512)

-- symbol i is legal at the running disparity, with such a character
unfoldable pub suits : List ℕ → ℕ → ℕ → ℕ → Bool
suits w low high i = is_some (char_of (running_at w i) (symbol_at w i)) && within low high (meant (symbol_at w i))

-- a run that began at `from` has reached i with this mask bit, and every symbol suited
pub record RunInv (w : List ℕ) (low high from i mask : ℕ) : Type 0 where
  pub come : from ≤ i
  pub bit : mask ≡ mask_of (running_at w i)
  pub suited : (j : ℕ) → from ≤ j → j < i → suits w low high j ≡ true

-- the same for test 20 at symbol i, whichever kind of character belongs there
abbrev pub holds_by : Shape → ℕ → ℕ → ℕ → Bool
holds_by p i mask e = legal_by mask e && fits p i (e % 512)

-- test 20 holds at every symbol before i, and this is the mask bit there
pub record ScanInv (p : Shape) (w : List ℕ) (i mask : ℕ) : Type 0 where
  pub within : i ≤ length w
  pub bit : mask ≡ mask_of (running_at w i)
  pub held : (j : ℕ) → j < i → holds20 p w j ≡ true

-- the lowest symbol at which test 20 does not hold, or the number of symbols
unfoldable pub place20 : Shape → List ℕ → ℕ
place20 p w = get_or (first_below (length w) (λ i. not (holds20 p w i))) (length w)

-- it, and the disparities before the window and there
pub record Walked : Type 0 where
  pub place : ℕ
  pub before : Disparity
  pub after : Disparity

abbrev pub walked_of : Shape → List ℕ → Walked
walked_of p w = record { place = place20 p w; before = start_of w; after = running_at w (place20 p w) }
