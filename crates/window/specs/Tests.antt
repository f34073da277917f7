-- Tests 21 to 26 over the words of a span alone (document 01, "Receiving and finding" and its table of refusals). There are s streams,
-- and `word k` is the word at interleaved place k; word j of stream t, both from 0, is at s * j + t. Each test is stated for every j and
-- t, and holds where it has nothing to check.
-- Assumes nothing.
use Rattle.std.specs.Prelude.{ℕ, zero, suc, ◌+◌, ◌-◌, ◌*◌, Bool, true, false, not, cond, ◌&&◌, List, ◌∷◌, ◌++◌, eqb, ltb}
use Rattle.std.proofs.Math.Option.{Option, get_or}
use Rattle.ground.specs.Range.{within}
use Rattle.ground.specs.Search.{is_some}
use Rattle.ground.specs.Written.{upto, table}
use Rattle.line.specs.Stream.{is_active, v_of, line_before}
use Rattle.span.specs.declared.format.Format.{Format}
use Rattle.span.specs.Format.{shape_of}
use Rattle.span.specs.Layout.{picture_start, eav_start, line_start, crcc_start, ancillary_start, sav_xyz, eav_xyz}
use Rattle.span.specs.Span.{fill_word}
use Rattle.crcc.specs.Crcc.{crc, crcc_words}
use Rattle.word.specs.LineNumber.{line_of}
use Rattle.word.specs.Received.{is_timing, repaired, v_in, wrong_bits, bit_wrong}
use Rattle.packing.specs.Sample.{allowed_word}

-- ---- one word

-- whether two tests agree
abbrev pub same : Bool → Bool → Bool
same a b = cond a b (not b)

-- whether stream t of line n may bring word w: on an active line what the depth allows, on a blanking line anything
abbrev pub may_bring : Format → ℕ → ℕ → ℕ → Bool
may_bring f n t w = cond (is_active n) (allowed_word f.depth w) true

-- the sum of f 0, f 1, and so on, n of them
unfoldable pub sum_of : ℕ → (ℕ → ℕ) → ℕ
sum_of zero f = 0
sum_of (suc n) f = sum_of n f + f n

-- the sum of g k over the places k of all XYZ of s streams, those of the SAV and of the EAV
abbrev pub over_xyz : ℕ → (ℕ → ℕ) → ℕ
over_xyz s g = sum_of s (λ t. g (s * sav_xyz + t) + g (s * eav_xyz + t))

-- ---- all words
module _ (s : ℕ) (word : ℕ → ℕ) where
  -- word j of stream t
  abbrev pub word_of : ℕ → ℕ → ℕ
  word_of j t = word (s * j + t)

  -- n words of stream t, from word j on
  abbrev pub column : ℕ → ℕ → ℕ → List ℕ
  column j n t = table n (λ i. word_of (j + i) t)

  -- 21: the timing words, four of the SAV and four of the EAV
  unfoldable pub holds21 : ℕ → ℕ → Bool
  holds21 j t =
      cond (ltb j picture_start) (is_timing false j (word_of j t))
      (cond (within eav_start eav_xyz j) (is_timing true (j - eav_start) (word_of j t)) true)

  -- the line that the two words of stream 1 name, if they name one; and the line before it, whose SAV begins the span
  abbrev pub named : Option ℕ
  named = line_of (word_of line_start 0) (word_of (line_start + 1) 0)

  unfoldable pub next_line : ℕ
  next_line = get_or named 0

  unfoldable pub line_read : ℕ
  line_read = line_before next_line

  -- 22: stream 1 names a line, checked at its LN0, and every other stream has the same two words
  unfoldable pub holds22 : ℕ → ℕ → Bool
  holds22 j t =
      cond (within line_start (line_start + 1) j) (cond (eqb j line_start && eqb t 0) (is_some named) (eqb (word_of j t) (word_of j 0))) true

  -- 23: V of each SAV is that of the line read, V of each EAV that of the line named
  unfoldable pub holds23 : ℕ → ℕ → Bool
  holds23 j t =
      cond (eqb j sav_xyz) (same (v_in (word_of j t)) (v_of line_read))
      (cond (eqb j eav_xyz) (same (v_in (word_of j t)) (v_of next_line)) true)

  -- 24: each CRCC word is the one computed over the stream from after the SAV to its last line-number word, with XYZ repaired
  unfoldable pub register_of : ℕ → ℕ
  register_of t =
      crc 0 (column picture_start 1920 t ++ (column eav_start 3 t ++ (repaired (word_of eav_xyz t) ∷ column line_start 2 t)))

  unfoldable pub holds24 : ℕ → ℕ → Bool
  holds24 j t =
      cond (eqb j crcc_start) (eqb (word_of j t) (crcc_words (register_of t)).crcc0)
      (cond (eqb j (crcc_start + 1)) (eqb (word_of j t) (crcc_words (register_of t)).crcc1) true)

  -- 25: the picture words
  unfoldable pub holds25 : Format → ℕ → ℕ → Bool
  holds25 f j t = cond (within picture_start (eav_start - 1) j) (may_bring f line_read t (word_of j t)) true

  -- 26: the fill, after all words of the streams
  unfoldable pub holds26 : Format → ℕ → ℕ → Bool
  holds26 f j t = cond (ltb j (ancillary_start + (shape_of f).ancillary)) true (eqb (word_of j t) fill_word)

  -- how many bits were wrong in all timing words together
  unfoldable pub repair_count : ℕ
  repair_count = over_xyz s (λ k. wrong_bits (word k))

  -- and in how many of them bit b was wrong
  unfoldable pub repairs_at : ℕ → ℕ
  repairs_at b = over_xyz s (λ k. bit_wrong b (word k))

  -- the picture, stream by stream
  unfoldable pub rows : List ℕ
  rows = upto s (column picture_start 1920)
