-- What is gathered from symbols without an early exit. That it is correct is the law `see_step`.
-- Assumes nothing.
use Rattle.std.specs.Prelude.{◌≡◌, ℕ, ◌+◌, ◌-◌, ◌*◌, ◌/◌, ◌%◌, ◌≤◌, ◌<◌, Bool, true, ◌&&◌, List, eqb, length, get_or}
use Rattle.std.specs.Int.Bits.{bit_and, bit_or, bit_xor}
use Rattle.decoder.specs.Inside.Decoder.{entry_of}
use Rattle.window.specs.Scan.{symbol_at}
use Rattle.window.specs.Inside.Given.{plain_pair}
use Rattle.read_test20.specs.declared.see.Seen.{Seen}
use Rattle.read_test20.specs.declared.see.Six.{Six}
use Rattle.read_test20.specs.declared.see.Three.{Three}
use Rattle.read_test20.specs.Inside.Run.{suits, RunInv}

-- each symbol has ten bits
pub record TenBits (w : List ℕ) : Type 0 where
  pub below : (i : ℕ) → i < length w → get_or w i 0 < 1024

-- the entry of a symbol, and what is gathered after it
abbrev pub seen : ℕ → ℕ → ℕ → Seen
seen s good flips =
    record { entry = entry_of s; good = bit_and good (bit_or (entry_of s) (flips / 4)); flips = bit_xor flips (entry_of s) }

-- three symbols from o on, and their words
unfoldable pub seen_three : List ℕ → ℕ → ℕ → ℕ → Three
seen_three w o good flips =
    let x = seen (symbol_at w o) good flips in
    let y = seen (symbol_at w (o + 1)) x.good x.flips in
    let z = seen (symbol_at w (o + 2)) y.good y.flips in
    record { good = z.good; flips = z.flips; words = plain_pair w o }

-- six symbols from o on, and the words of four streams
unfoldable pub seen_six : List ℕ → ℕ → ℕ → ℕ → Six
unfolding seen_three
seen_six w o good flips =
    let x = seen_three w o good flips in
    let y = seen_three w (o + 3) x.good x.flips in
    record { good = y.good; flips = y.flips; low = x.words; high = y.words }

-- bits 9, 10 and 13 are set
abbrev pub passes_by : ℕ → Bool
passes_by good = eqb (good / 512 % 4) 3 && eqb (good / 8192 % 2) 1

-- the mask bit of the running disparity; bits 11 and 12 of `flips` have that of the other
abbrev pub mask_by : ℕ → ℕ
mask_by flips = 1536 - flips / 2048 % 4 * 512

-- all symbols from one place to another are bytes that are legal at their running disparity
pub record AreBytes (w : List ℕ) (from to : ℕ) : Type 0 where
  pub each : (j : ℕ) → from ≤ j → j < to → suits w 0 255 j ≡ true

-- `good` passes exactly when all symbols up to i are such bytes
pub record GatherInv (w : List ℕ) (from i good flips : ℕ) : Type 0 where
  pub come : from ≤ i
  pub fits : flips < 16384
  pub clean : passes_by good ≡ true → RunInv w 0 255 from i (mask_by flips)
  pub kept : AreBytes w from i → passes_by good ≡ true
