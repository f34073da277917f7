-- What words are that meet tests 21 to 26, one test after the other, at word j of stream t.
-- Assumes nothing.
use mathlib.Core.Path.{◌≡◌, sym, ap, ◌∙◌}
use mathlib.Core.Bool.{Bool, true, false}
use mathlib.Core.Option.{get_or}
use Prim.Native.Nat.{ℕ, ◌+◌, ◌-◌, ◌*◌, ◌/◌, ◌%◌, ◌≤◌, ◌<◌}
use native.Mathlib.Nat.{le-div_iff_mul-le}
use native.Mathlib.Omega.{arith}
use lib.Dec.{eqb}
use borrow.Author.Tests.{le-ltb, eqb-true}
use Rattle.ground.specs.Range.{within}
use Rattle.ground.specs.Search.{is_some}
use Rattle.ground.proofs.Cases.{on_test}
use Rattle.ground.proofs.Ranges.{is_within, from_low, to_high}
use Rattle.ground.proofs.Searches.{hit}
use Rattle.line.specs.Stream.{is_line, v_of, line_after}
use Rattle.line.proofs.Lines.{after_before}
use Rattle.span.specs.declared.format.Format.{Format}
use Rattle.span.specs.Format.{shape_of, streams, pairs_in}
use Rattle.span.specs.Span.{fill_word}
use Rattle.span.specs.Layout.{picture_start, eav_start, line_start, crcc_start, ancillary_start, sav_xyz, eav_xyz}
use Rattle.crcc.specs.Crcc.{crcc_words}
use Rattle.word.specs.LineNumber.{ln0, ln1, are_words_of, line_of}
use Rattle.word.specs.Repair.{distance, nearest}
use Rattle.word.specs.Timing.{timing}
use Rattle.word.proofs.LineNumbers.{named_is_line, named_ln0, named_ln1}
use Rattle.window.specs.Read.{placed}
use Rattle.window.specs.Tests.{same, may_bring, sum_of, word_of, holds21, next_line, line_read, holds22, holds23, register_of, holds24, holds25, holds26, repair_count}
use Rattle.word.specs.Received.{has_h, repaired, v_in, wrong_bits}
use Rattle.window.specs.Inside.Encoded.{Passes}
use Rattle.window.proofs.Nearest.{same_told, near_read, repaired_is, whole_timing}
use Rattle.window.proofs.Placing.{place_again, at_word, in_span}
use Rattle.window.proofs.Symbols.{some_told}
use Rattle.window.proofs.Sums.{parts_zero}

-- a test that holds at all places holds at word j of stream t
module _ (f : Format) (t : ℕ) (l : t < streams (shape_of f)) (holds : ℕ → ℕ → Bool)
    (all : (k : ℕ) → k < 2 * pairs_in (shape_of f) → placed (streams (shape_of f)) holds k ≡ true) where
  held : (j : ℕ) → j < ancillary_start + (shape_of f).ancillary → holds j t ≡ true
  held j h = at_word (streams (shape_of f)) (omega arith) (2 * pairs_in (shape_of f)) holds all j t l (in_span (shape_of f) j t h l)

-- ---- 21: timing words

module _ (f : Format) (word : ℕ → ℕ) (t : ℕ) (l : t < streams (shape_of f))
    (all : (k : ℕ) → k < 2 * pairs_in (shape_of f)
    → placed (streams (shape_of f)) (holds21 (streams (shape_of f)) word) k ≡ true) where
  abbrev code : ℕ → ℕ
  code j = word_of (streams (shape_of f)) word j t

  is_timing_lem : (j : ℕ) → j < ancillary_start → holds21 (streams (shape_of f)) word j t ≡ true
  is_timing_lem j h = held f t l (holds21 (streams (shape_of f)) word) all j (omega arith)

  -- the three words before XYZ, and H of XYZ
  pub sav_told : (code 0 ≡ 0xFFF) × (code 1 ≡ 0x000) × (code 2 ≡ 0x000) × (has_h false (nearest (code 3)) ≡ true)
  unfolding holds21
  sav_told = (
    eqb-true (code 0) 0xFFF (is_timing_lem 0 (omega arith)),
    eqb-true (code 1) 0x000 (is_timing_lem 1 (omega arith)),
    eqb-true (code 2) 0x000 (is_timing_lem 2 (omega arith)),
    is_timing_lem 3 (omega arith),
  )

  pub eav_told : (code eav_start ≡ 0xFFF) × (code (eav_start + 1) ≡ 0x000) × (code (eav_start + 2) ≡ 0x000) × (has_h true (nearest (code eav_xyz)) ≡ true)
  unfolding holds21 within
  eav_told = (
    eqb-true (code eav_start) 0xFFF (is_timing_lem eav_start (omega arith)),
    eqb-true (code (eav_start + 1)) 0x000 (is_timing_lem (eav_start + 1) (omega arith)),
    eqb-true (code (eav_start + 2)) 0x000 (is_timing_lem (eav_start + 2) (omega arith)),
    is_timing_lem eav_xyz (omega arith),
  )

-- ---- 22 of stream 1, and the fill

-- words that name a line are those of its number
pub line_named : (a b : ℕ) → is_some (line_of a b) ≡ true → are_words_of a b (get_or (line_of a b) 0) ≡ true
unfolding line_of
line_named a b t = (hit (are_words_of a b) 1126 (get_or (line_of a b) 0) (some_told (line_of a b) t)).holds

module _ (f : Format) (word : ℕ → ℕ) (m : Passes f word) (l : 0 < streams (shape_of f)) where
  -- it is of a line, so its words are those of that line's number
  next_named :
      are_words_of (word_of (streams (shape_of f)) word line_start 0) (word_of (streams (shape_of f)) word (line_start + 1) 0) (next_line (streams (shape_of f)) word)
      ≡ true
  unfolding holds22 within next_line
  next_named = line_named _ _ (held f 0 l (holds22 (streams (shape_of f)) word) m.line_number line_start (omega arith))

  pub next_is_line : is_line (next_line (streams (shape_of f)) word) ≡ true
  next_is_line = named_is_line _ _ _ next_named

  pub first_ln0 : word_of (streams (shape_of f)) word line_start 0 ≡ ln0 (next_line (streams (shape_of f)) word)
  first_ln0 = sym (named_ln0 _ _ _ next_named)

  pub first_ln1 : word_of (streams (shape_of f)) word (line_start + 1) 0 ≡ ln1 (next_line (streams (shape_of f)) word)
  first_ln1 = sym (named_ln1 _ _ _ next_named)

  -- that line follows the one read
  pub next_follows : line_after (line_read (streams (shape_of f)) word) ≡ next_line (streams (shape_of f)) word
  unfolding line_read
  next_follows = after_before _ (from_low 1 1125 _ next_is_line) (to_high 1 1125 _ next_is_line)

  -- 26: after all words of the streams is fill
  pub fill_told :
      (k : ℕ) → streams (shape_of f) * (ancillary_start + (shape_of f).ancillary) ≤ k → k < 2 * pairs_in (shape_of f) → word k ≡ fill_word
  unfolding holds26
  fill_told k from h =
      let s = streams (shape_of f) in
      let past : ancillary_start + (shape_of f).ancillary ≤ k / s = (le-div_iff_mul-le l).1 (omega arith) in
      rw (place_again s l k)
      at (eqb-true (word (s * (k / s) + k % s)) fill_word (rw (le-ltb (k / s) (ancillary_start + (shape_of f).ancillary) past) at (m.fill k h)))

-- ---- 22 to 25 at stream t

module _ (f : Format) (word : ℕ → ℕ) (m : Passes f word) (t : ℕ) (l : t < streams (shape_of f)) where
  abbrev s : ℕ
  s = streams (shape_of f)

  -- word j of stream t
  abbrev at : ℕ → ℕ
  at j = word_of s word j t

  -- the line after the one read
  abbrev next : ℕ
  next = line_after (line_read s word)

  is_next : next_line s word ≡ next
  is_next = sym (next_follows f word m (omega arith))

  -- the line number
  pub ln0_told : at line_start ≡ ln0 next
  unfolding holds22 within
  ln0_told =
      on_test (eqb t 0) (λ z. ap (λ (u : ℕ). word_of s word line_start u) (eqb-true t 0 z))
      (λ z. eqb-true (at line_start) (word_of s word line_start 0) (rw z at (held f t l (holds22 s word) m.line_number line_start (omega arith))))
      ∙ first_ln0 f word m (omega arith) ∙ ap ln0 is_next

  pub ln1_told : at (line_start + 1) ≡ ln1 next
  unfolding holds22 within
  ln1_told =
      eqb-true (at (line_start + 1)) (word_of s word (line_start + 1) 0) (held f t l (holds22 s word) m.line_number (line_start + 1) (omega arith))
      ∙ first_ln1 f word m (omega arith) ∙ ap ln1 is_next

  -- V of XYZ
  sav_v : same (v_in (at sav_xyz)) (v_of (line_read s word)) ≡ true
  unfolding holds23
  sav_v = held f t l (holds23 s word) m.v 3 (omega arith)

  eav_v : same (v_in (at eav_xyz)) (v_of next) ≡ true
  unfolding holds23
  eav_v =
      let told : same (v_in (at eav_xyz)) (v_of (next_line s word)) ≡ true = held f t l (holds23 s word) m.v eav_xyz (omega arith) in
      rw is_next at told

  -- so XYZ is near the word of its line
  near_v : (j n : ℕ) (h : Bool) → has_h h (nearest (at j)) ≡ true → same (v_in (at j)) (v_of n) ≡ true → distance (at j) (timing (v_of n) h) ≤ 1
  near_v j n h is_h is-v =
      let e : timing (v_in (at j)) h ≡ timing (v_of n) h = ap (λ (v : Bool). timing v h) (same_told (v_in (at j)) (v_of n) is-v) in
      rw e at (near_read (at j) h is_h)

  pub sav_near : distance (at sav_xyz) (timing (v_of (line_read s word)) false) ≤ 1
  sav_near = near_v sav_xyz (line_read s word) false (sav_told f word t l m.timing).3 sav_v

  pub eav_near : distance (at eav_xyz) (timing (v_of next) true) ≤ 1
  eav_near = near_v eav_xyz next true (eav_told f word t l m.timing).3 eav_v

  -- XYZ, repaired
  pub eav_repaired : repaired (at eav_xyz) ≡ timing (v_of next) true
  eav_repaired = repaired_is (at eav_xyz) (v_of next) true (eav_told f word t l m.timing).3 eav_v

  -- XYZ, where no bit is wrong
  module _ (small : (k : ℕ) → word k < 4096) (none_wrong : repair_count s word ≡ 0) where
    right : wrong_bits (at sav_xyz) + wrong_bits (at eav_xyz) ≡ 0
    unfolding repair_count
    right =
        let wrong : ℕ → ℕ = λ t. wrong_bits (word_of s word sav_xyz t) + wrong_bits (word_of s word eav_xyz t) in
        let none : sum_of s wrong ≡ 0 = omega (arith, none_wrong) in
        parts_zero s wrong none t l

    pub sav_xyz_lem : at sav_xyz ≡ timing (v_of (line_read s word)) false
    sav_xyz_lem =
        whole_timing (at sav_xyz) (v_of (line_read s word)) false (sav_told f word t l m.timing).3 sav_v (small (s * sav_xyz + t)) (omega (arith, right))

    pub eav_xyz_lem : at eav_xyz ≡ timing (v_of next) true
    eav_xyz_lem =
        whole_timing (at eav_xyz) (v_of next) true (eav_told f word t l m.timing).3 eav_v (small (s * eav_xyz + t)) (omega (arith, right))

  -- the CRCC
  pub crcc0_told : at crcc_start ≡ (crcc_words (register_of s word t)).crcc0
  unfolding holds24
  crcc0_told =
      eqb-true (at crcc_start) (crcc_words (register_of s word t)).crcc0 (held f t l (holds24 s word) m.crcc crcc_start (omega arith))

  pub crcc1_told : at (crcc_start + 1) ≡ (crcc_words (register_of s word t)).crcc1
  unfolding holds24
  crcc1_told =
      eqb-true (at (crcc_start + 1)) (crcc_words (register_of s word t)).crcc1 (held f t l (holds24 s word) m.crcc (crcc_start + 1) (omega arith))

  -- the picture
  pub picture_told : (i : ℕ) → i < 1920 → may_bring f (line_read s word) t (at (picture_start + i)) ≡ true
  unfolding holds25
  picture_told i h =
      rw (is_within picture_start (eav_start - 1) (picture_start + i) (omega arith) (omega arith))
      at (held f t l (holds25 s word f) m.picture (picture_start + i) (omega arith))
