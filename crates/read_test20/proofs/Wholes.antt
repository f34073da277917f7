-- The parts of a window that stand in its timing codes, and all of it.
-- Assumes nothing.
use mathlib.Core.Path.{◌≡◌, refl, sym, ap, ◌∙◌}
use mathlib.Core.Bool.{true}
use mathlib.Core.List.{List}
use Prim.Native.Nat.{ℕ, ◌+◌, ◌*◌, ◌/◌, ◌%◌, ◌≤◌}
use native.Mathlib.Nat.{mul-le-mul_left}
use native.Mathlib.Omega.{arith}
use lib.ListN.{length}
use Rattle.symbol.specs.declared.disparity.Disparity.{Disparity}
use Rattle.symbol.specs.declared.disparity.Disparity.TheVariants.{Negative, Positive}
use Rattle.symbol.specs.Code.{symbol_of, after_of}
use Rattle.decoder.specs.Inside.Mask.{mask_of, of_mask}
use Rattle.read_test20.proofs.Gathering.{char_step, join}
use Rattle.read_test20.proofs.Runs.{begin}
use Rattle.read_test20.proofs.Window.{all_suit, reached}
use Rattle.span.specs.declared.format.Shape.{Shape}
use Rattle.span.specs.Format.{eav_at, symbols_in}
use Rattle.span.specs.Inside.Layout.{eav_symbol}
use Rattle.window.specs.Scan.{symbol_at, start_of, running_at}
use Rattle.window.proofs.Symbols.{running_start, starts}
use Rattle.read_test20.specs.Inside.Picture.{Come}
use Rattle.read_test20.specs.Inside.Run.{RunInv, walked_of, ScanInv}
use Rattle.read_test20.specs.Inside.See.{passes_by, mask_by, GatherInv}
use Rattle.read_test20.specs.Inside.Whole.{Tied, Begun, EavHolds, Ending}
use Rattle.read_test20.proofs.Seeing.{see_begin}

module _ (w : List ℕ) where
  -- ---- K28.5 twice
  pub begun_negative : symbol_at w 0 ≡ 0x17C → symbol_at w 1 ≡ 0x283 → Begun w 4096
  unfolding symbol_of after_of
  begun_negative x y =
      let start : start_of w ≡ Negative = starts Negative w x in
      record {
        fits = omega arith;
        start = start;
        going =
            char_step w 261 261 Positive 261 (omega arith) (omega arith) (omega arith)
            (char_step w 261 261 Negative 261 (omega arith) (omega arith) (omega arith)
            (begin w 261 261 0 512 (ap mask_of (sym (running_start w ∙ start)))) x)
            y;
      }

  pub begun_positive : symbol_at w 0 ≡ 0x283 → symbol_at w 1 ≡ 0x17C → Begun w 2048
  unfolding symbol_of after_of
  begun_positive x y =
      let start : start_of w ≡ Positive = starts Positive w x in
      record {
        fits = omega arith;
        start = start;
        going =
            char_step w 261 261 Negative 261 (omega arith) (omega arith) (omega arith)
            (char_step w 261 261 Positive 261 (omega arith) (omega arith) (omega arith)
            (begin w 261 261 0 1024 (ap mask_of (sym (running_start w ∙ start)))) x)
            y;
      }

  -- ---- K29.7 twice
  eav_at_lem : (d : Disparity) (at : ℕ) → running_at w at ≡ d → symbol_at w at ≡ symbol_of d 266 → symbol_at w (at + 1) ≡ symbol_of d 266
      → RunInv w 266 266 at (at + 2) (mask_of d)
  unfolding after_of
  eav_at_lem d at r x y =
      let second : at + 1 + 1 ≡ at + 2 = omega arith in
      let first = flat d (char_step w 266 266 d 266 (omega arith) (omega arith) (omega arith) (begin w 266 266 at (mask_of d) (ap mask_of (sym r))) x) in
      rw second at (flat d (char_step w 266 266 d 266 (omega arith) (omega arith) (omega arith) first y))
    where
      flat : {i : ℕ} (d : Disparity) → RunInv w 266 266 at i (mask_of (after_of d 266)) → RunInv w 266 266 at i (mask_of d)
      flat Negative g = g
      flat Positive g = g

  module _ (at flips : ℕ) where
    pub stays_negative : flips / 2048 % 4 ≡ 2 → symbol_at w at ≡ 0x05D → symbol_at w (at + 1) ≡ 0x05D → EavHolds w at flips
    unfolding symbol_of
    stays_negative e x y = record { going = λ m. go (running_at w at) refl m }
      where
        go : (d : Disparity) → running_at w at ≡ d → mask_by flips ≡ mask_of (running_at w at) → RunInv w 266 266 at (at + 2) (mask_by flips)
        go Negative r m = rw (m, r) (eav_at_lem Negative at r x y)
        go Positive r m = absurd (let z : mask_by flips ≡ 1024 = m ∙ ap mask_of r in omega arith)

    pub stays_positive : (flips / 2048 % 4 ≡ 2 → ⊥) → symbol_at w at ≡ 0x3A2 → symbol_at w (at + 1) ≡ 0x3A2 → EavHolds w at flips
    unfolding symbol_of
    stays_positive n x y = record { going = λ m. go (running_at w at) refl m }
      where
        go : (d : Disparity) → running_at w at ≡ d → mask_by flips ≡ mask_of (running_at w at) → RunInv w 266 266 at (at + 2) (mask_by flips)
        go Negative r m = absurd (n (let z : mask_by flips ≡ 512 = m ∙ ap mask_of r in omega arith))
        go Positive r m = rw (m, r) (eav_at_lem Positive at r x y)

-- ---- all of it

module _ (p : Shape) (w : List ℕ) where
  -- what is gathered after a run tells the running disparity there
  pub tied : {from i j good flips : ℕ} → GatherInv w from i good flips → passes_by good ≡ true → i ≡ j → Tied w j flips
  tied g t e = record { fits = g.fits; bit = rw e at (g.clean t).bit }

  -- and a run begins there
  pub goes_on : {i flips : ℕ} → Tied w i flips → GatherInv w i i 65535 flips
  goes_on {i} {flips} t = see_begin w i flips t.fits t.bit

  module _ {first head good goods flips after : ℕ} (sav : Begun w first) (bytes : GatherInv w 2 (12 * p.stream_pairs) good head)
      (right : passes_by good ≡ true) (picture : GatherInv w (12 * p.stream_pairs) (12 * p.stream_pairs + 3 * p.stream_pairs * 1920) goods flips)
      (rights : passes_by goods ≡ true) (end : Ending p w flips after) where
    pub scanned_whole : record { place = length w; before = of_mask (mask_by first); after = of_mask (mask_by after) } ≡ walked_of p w
    scanned_whole =
        let at : 12 * p.stream_pairs + 3 * p.stream_pairs * 1920 ≡ eav_at p = omega arith in
        let eav : eav_symbol * p.stream_pairs ≡ eav_at p = omega arith in
        rw (← sav.start)
        (all_suit p w sav.going (join w (bytes.clean right) (rw at at (picture.clean rights))) (rw eav at end.eav) (rw eav at end.bytes))

  -- as far as the picture words have come
  pub reached_behind : {first head good flips words : ℕ} → Begun w first → GatherInv w 2 (12 * p.stream_pairs) good head → passes_by good ≡ true
      → Come p.stream_pairs w words flips → length w ≡ symbols_in p → ScanInv p w (12 * p.stream_pairs + 3 * p.stream_pairs * words) (mask_by flips)
  reached_behind {words = words} sav bytes right come long =
      let most : 3 * p.stream_pairs * words ≤ 3 * p.stream_pairs * 1920 = mul-le-mul_left (3 * p.stream_pairs) come.some in
      reached p w sav.going (join w (bytes.clean right) come.going) (omega arith) (omega (arith, long))
