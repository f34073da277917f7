-- What each part of the single pass establishes about a window, and what the whole pass does.
-- Assumes nothing.
use Rattle.std.specs.Prelude.{◌≡◌, ℕ, ◌+◌, ◌*◌, ◌<◌, Bool, true, false, cond, ◌&&◌, Option, Some, None, Result, Ok, Err, List, eqb, length, replicate}
use Rattle.decoder.specs.Inside.Mask.{mask_of, of_mask}
use Rattle.span.specs.declared.format.Format.{Format}
use Rattle.span.specs.declared.format.Shape.{Shape}
use Rattle.span.specs.Format.{shape_of, streams}
use Rattle.span.specs.Inside.Fit.{ready}
use Rattle.span.specs.Inside.Layout.{eav_symbol}
use Rattle.window.specs.Scan.{start_of, running_at, holds20}
use Rattle.window.specs.Tests.{rows as rows_of}
use Rattle.window.specs.Words.{word_at}
use Rattle.window.specs.Inside.Columns.{sums_of}
use Rattle.window.specs.Inside.Fill.{fill_right}
use Rattle.read_test20.specs.declared.whole.Ended.{Ended}
use Rattle.read_test20.specs.declared.whole.PassError.{PassError}
use Rattle.read_test20.specs.declared.whole.PassError.TheVariants.{Faulty, NotExamined as NoWindow}
use Rattle.read_test20.specs.declared.whole.Reached.{Reached}
use Rattle.read_test20.specs.declared.whole.TakeError.{TakeError}
use Rattle.read_test20.specs.declared.whole.TakeError.TheVariants.{Invalid, NotExamined}
use Rattle.read_test20.specs.declared.whole.Valid.{Valid}
use Rattle.read_test20.specs.Inside.Fill.{AreFill}
use Rattle.read_test20.specs.Inside.Run.{suits, RunInv, ScanInv, place20}
use Rattle.read_test20.specs.Inside.See.{mask_by}

-- a special character at a place and at the next, legal at both
pub record Twice (w : List ℕ) (c at : ℕ) : Type 0 where
  pub first : suits w c c at ≡ true
  pub second : suits w c c (at + 1) ≡ true

-- test 20 holds at every symbol
pub record AllHold (p : Shape) (w : List ℕ) : Type 0 where
  pub each : (j : ℕ) → j < length w → holds20 p w j ≡ true

-- what is known of a window for which it does: whether its fill is right, its disparities, and the CRC of each stream over its picture words
abbrev pub valid_of : Shape → List ℕ → Valid
valid_of p w = record { filled = fill_right p w; before = start_of w; after = running_at w (length w); sums = sums_of p w }

-- what the pass over a window finds, and the rows after it; in haste a wrong fill is a fault
abbrev pub PassedWindow : Shape → List ℕ → Bool → List ℕ → Result Valid Reached → Type 0
PassedWindow p w haste rows (Ok v) = (place20 p w ≡ length w) × (v ≡ valid_of p w) × (rows ≡ rows_of (streams p) (word_at p w))
PassedWindow p w haste rows (Err x) = (AllHold p w → (haste ≡ true → fill_right p w ≡ true) → ⊥) × ScanInv p w x.place x.mask

-- the same for any symbols and rows
abbrev pub PassedIf : Format → List ℕ → Bool → List ℕ → List ℕ → Result Valid PassError → Type 0
PassedIf f w haste entry rows (Ok v) = (ready f (length w) (length entry) ≡ true) × PassedWindow (shape_of f) w haste rows (Ok v)
PassedIf f w haste entry rows (Err (Faulty x)) = (ready f (length w) (length entry) ≡ true) × PassedWindow (shape_of f) w haste rows (Err x)
PassedIf f w haste entry rows (Err NoWindow) = (ready f (length w) (length entry) ≡ false) × (rows ≡ entry)

-- the answer for a window with rows of its length: this, or the lowest symbol at which test 20 does not hold
abbrev pub taken_of : Shape → List ℕ → Result Valid TakeError
taken_of p w = cond (eqb (place20 p w) (length w)) (Ok (valid_of p w)) (Err (Invalid (place20 p w)))

-- and its rows: the picture words stream by stream, or zeros
abbrev pub rows_taken : Shape → List ℕ → List ℕ → List ℕ
rows_taken p w rows = cond (eqb (place20 p w) (length w)) (rows_of (streams p) (word_at p w)) (replicate (length rows) 0)

-- the same for any symbols and rows
abbrev pub taken_if : Format → List ℕ → List ℕ → Result Valid TakeError
taken_if f w rows = cond (ready f (length w) (length rows)) (taken_of (shape_of f) w) (Err NotExamined)

abbrev pub rows_if : Format → List ℕ → List ℕ → List ℕ
rows_if f w rows = cond (ready f (length w) (length rows)) (rows_taken (shape_of f) w rows) rows

-- only whether all symbols are valid and the fill is right, and what is then known
abbrev pub is_all_valid : Format → List ℕ → ℕ → Bool
is_all_valid f w room = ready f (length w) room && (eqb (place20 (shape_of f) w) (length w) && fill_right (shape_of f) w)

abbrev pub whole_if : Format → List ℕ → ℕ → Option Valid
whole_if f w room = cond (is_all_valid f w room) (Some (valid_of (shape_of f) w)) None

-- and the rows: the picture words of such a window, or anything
abbrev pub rows_whole : Format → List ℕ → ℕ → List ℕ → List ℕ
rows_whole f w room left = cond (is_all_valid f w room) (rows_of (streams (shape_of f)) (word_at (shape_of f) w)) left

-- what is gathered before symbol i records the running disparity there
pub record Tied (w : List ℕ) (i flips : ℕ) : Type 0 where
  pub fits : flips < 16384
  pub bit : mask_by flips ≡ mask_of (running_at w i)

-- K28.5 twice at the beginning
pub record Begun (w : List ℕ) (flips : ℕ) : Type 0 where
  pub fits : flips < 16384
  pub start : start_of w ≡ of_mask (mask_by flips)
  pub going : RunInv w 261 261 0 2 (mask_by flips)

-- K29.7 twice
pub record EavHolds (w : List ℕ) (at flips : ℕ) : Type 0 where
  pub going : mask_by flips ≡ mask_of (running_at w at) → RunInv w 266 266 at (at + 2) (mask_by flips)

-- bytes from one place to another, and what has been gathered after them
pub record RunTo (w : List ℕ) (from to flips : ℕ) : Type 0 where
  pub fits : flips < 16384
  pub going : RunInv w 0 255 from to (mask_by flips)

-- the fill, where its symbols are valid: what is gathered after it, and whether it is fill words
pub record FillSeen (w : List ℕ) (from to flips : ℕ) (e : Ended) : Type 0 where
  pub run : RunTo w from to e.flips
  pub sound : e.filled ≡ true → AreFill w from to flips
  pub kept : AreFill w from to flips → e.filled ≡ true

-- everything after the picture
pub record Ending (p : Shape) (w : List ℕ) (flips after : ℕ) : Type 0 where
  pub eav : RunInv w 266 266 (eav_symbol * p.stream_pairs) (eav_symbol * p.stream_pairs + 2) (mask_by flips)
  pub bytes : RunInv w 0 255 (eav_symbol * p.stream_pairs + 2) (length w) (mask_by after)
