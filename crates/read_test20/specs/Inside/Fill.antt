-- Symbols of fill words, bytes 00 01 10 (hex) for two words of 100; and symbols that repeat.
-- Assumes nothing.
use Rattle.std.specs.Prelude.{◌≡◌, ℕ, ◌+◌, ◌*◌, ◌≤◌, ◌<◌, List}
use Rattle.symbol.specs.Code.{symbol_of}
use Rattle.decoder.specs.Inside.Mask.{of_mask}
use Rattle.window.specs.Scan.{symbol_at}
use Rattle.read_test20.specs.Inside.See.{mask_by}

-- the symbols of two fill words
pub record FillSymbols : Type 0 where
  pub first : ℕ
  pub second : ℕ
  pub third : ℕ

-- at the disparity of a mask bit
abbrev pub fill_by : ℕ → FillSymbols
fill_by m =
    let d = of_mask m in
    record { first = symbol_of d 0x00; second = symbol_of d 0x01; third = symbol_of d 0x10 }

-- each symbol from the fourth on equals the one three before it
pub record Repeats (w : List ℕ) (from to : ℕ) : Type 0 where
  pub again : (i : ℕ) → from ≤ i → i + 3 < to → symbol_at w (i + 3) ≡ symbol_at w i

-- in threes they are the symbols of two fill words, at the running disparity that `flips` records
pub record AreFill (w : List ℕ) (from to flips : ℕ) : Type 0 where
  pub first : (q : ℕ) → from + 3 * q < to → symbol_at w (from + 3 * q) ≡ (fill_by (mask_by flips)).first
  pub second : (q : ℕ) → from + 3 * q + 1 < to → symbol_at w (from + 3 * q + 1) ≡ (fill_by (mask_by flips)).second
  pub third : (q : ℕ) → from + 3 * q + 2 < to → symbol_at w (from + 3 * q + 2) ≡ (fill_by (mask_by flips)).third
