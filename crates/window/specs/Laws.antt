-- Laws of reading a window, for a reader of the papers; `proofs/Laws` proves each. Words and streams count from 0, so the paper's
-- stream 1 is stream 0.
-- Assumes nothing.
use Rattle.std.specs.Prelude.{ℕ, ◌+◌, ◌*◌, ◌/◌, ◌%◌, ◌≤◌, ◌<◌, ◌≡◌, Bool, true, false, not, List, ◌⊎◌, length, get_or, set, replicate}
use Rattle.std.proofs.Math.Option.{none}
use Rattle.ground.specs.Answer.{refused, given}
use Rattle.ground.specs.Bit.{inverted}
use Rattle.ground.specs.Written.{table}
use Rattle.line.specs.Stream.{is_active}
use Rattle.symbol.specs.declared.disparity.Disparity.{Disparity}
use Rattle.symbol.specs.declared.special.Special.TheVariants.{K28_5, K29_7}
use Rattle.symbol.specs.Character.{number_of}
use Rattle.symbol.specs.Code.{symbol_of}
use Rattle.word.specs.LineNumber.{line_of}
use Rattle.word.specs.Repair.{distance, nearest}
use Rattle.word.specs.Timing.{timing}
use Rattle.span.specs.declared.format.Format.{Format}
use Rattle.span.specs.Encoding.{symbols_from}
use Rattle.span.specs.Format.{shape_of, streams, pairs_in, symbols_in, eav_at}
use Rattle.span.specs.Numbers.{IsFormat, Symbols, Samples}
use Rattle.span.specs.Sample.{blank_word}
use Rattle.span.specs.Span.{bytes, span_words, span_symbols}
use Rattle.span.specs.Stream.{Request}
use Rattle.window.specs.declared.delivery.Delivery.{Delivery}
use Rattle.window.specs.Encoded.{chars_of, word_in, Everywhere, words_of, Meets, request_of}
use Rattle.window.specs.Read.{placed, content_in, delivery_of, picture_of, read_span, judge_of, read_of, rows_read}
use Rattle.window.specs.Rules.{Rule20, Rule21, Rule22, Rule23, Rule24, Rule25, Rule26}
use Rattle.ground.specs.Inside.Test.{Reflects}
use Rattle.window.specs.Scan.{symbol_at, start_of, running_at, holds20}
use Rattle.window.specs.Tests.{word_of, holds21, holds22, holds23, holds24, holds25, holds26, line_read, repair_count}
use Rattle.word.specs.Received.{has_h, repaired}
use Rattle.window.specs.Words.{word_at}
use Rattle.window.specs.Inside.Encoded.{Sendable}

-- a test holds at all of n places
abbrev pub Holds : ℕ → (ℕ → Bool) → Type 0
Holds n holds = (k : ℕ) → k < n → holds k ≡ true

-- k is the lowest place at which it does not hold
pub record Fails (n : ℕ) (holds : ℕ → Bool) (k : ℕ) : Type 0 where
  pub place : k < n
  pub there : holds k ≡ false
  pub before : (j : ℕ) → j < k → holds j ≡ true

module _ (f : Format) (w : List ℕ) where
  -- word j of stream t of a window
  abbrev word : ℕ → ℕ → ℕ
  word = word_of (streams (shape_of f)) (word_at (shape_of f) w)

  -- tests 20 to 26 by their numbers, the last six over the words
  abbrev test20 : ℕ → Bool
  test20 = holds20 (shape_of f) w

  abbrev test21 : ℕ → Bool
  test21 = placed (streams (shape_of f)) (holds21 (streams (shape_of f)) (word_at (shape_of f) w))

  abbrev test22 : ℕ → Bool
  test22 = placed (streams (shape_of f)) (holds22 (streams (shape_of f)) (word_at (shape_of f) w))

  abbrev test23 : ℕ → Bool
  test23 = placed (streams (shape_of f)) (holds23 (streams (shape_of f)) (word_at (shape_of f) w))

  abbrev test24 : ℕ → Bool
  test24 = placed (streams (shape_of f)) (holds24 (streams (shape_of f)) (word_at (shape_of f) w))

  abbrev test25 : ℕ → Bool
  test25 = placed (streams (shape_of f)) (holds25 (streams (shape_of f)) (word_at (shape_of f) w) f)

  abbrev test26 : ℕ → Bool
  test26 = placed (streams (shape_of f)) (holds26 (streams (shape_of f)) (word_at (shape_of f) w) f)

  -- the test of the symbols holds everywhere; a test of the words does
  abbrev Scanned : Type 0
  Scanned = Holds (symbols_in (shape_of f)) test20

  abbrev Held : (ℕ → Bool) → Type 0
  Held = Holds (2 * pairs_in (shape_of f))

  -- k is the lowest word at which a test does not hold
  abbrev Met : (ℕ → Bool) → ℕ → Type 0
  Met = Fails (2 * pairs_in (shape_of f))

-- Which windows are judged and read, and what each refusal is (document 01, "Receiving and finding" and its table of refusals).
pub record WindowRefusals : Type 0 where
  -- an unknown format is refused with 1, a wrong number of symbols with 3; any other window goes through tests 20 to 26
  pub judge_meets1 : (f : Format) (w : List ℕ) → (IsFormat f → ⊥) → judge_of f w ≡ refused 1 0
  pub judge_meets3 : (f : Format) (w : List ℕ) → IsFormat f → (Symbols f (length w) → ⊥) → judge_of f w ≡ refused 3 0
  pub judged : (f : Format) (w : List ℕ) → IsFormat f → Symbols f (length w) → judge_of f w ≡ read_span f w
  -- into rows of the right length a window is read as it is judged
  pub read_as_judged : (f : Format) (w : List ℕ) (room : ℕ) → Samples f room → read_of f w room ≡ judge_of f w
  -- the rows: unchanged after refusals 1, 3 and 4, all zero after 20 to 26, the picture if the window is delivered
  pub rows_after1 : (f : Format) (w entry : List ℕ) → (IsFormat f → ⊥) → rows_read f w entry ≡ entry
  pub rows_after3 : (f : Format) (w entry : List ℕ) → IsFormat f → (Symbols f (length w) → ⊥) → rows_read f w entry ≡ entry
  pub rows_after4 :
      (f : Format) (w entry : List ℕ)
      → IsFormat f
      → Symbols f (length w)
      → (Samples f (length entry) → ⊥)
      → rows_read f w entry ≡ entry
  pub rows_after_refusal :
      (f : Format) (w entry : List ℕ)
      → IsFormat f
      → Symbols f (length w)
      → Samples f (length entry)
      → (number place : ℕ)
      → read_span f w ≡ refused number place
      → rows_read f w entry ≡ replicate (length entry) 0
  pub rows_delivered :
      (f : Format) (w entry : List ℕ)
      → IsFormat f
      → Symbols f (length w)
      → Samples f (length entry)
      → (r : Delivery)
      → read_span f w ≡ given r
      → rows_read f w entry ≡ picture_of f w
  -- the refusal is the first test, from 20 to 26, that does not hold everywhere, with the lowest place at which it does not
  pub meets20 : (f : Format) (w : List ℕ) (k : ℕ) → Fails (symbols_in (shape_of f)) (test20 f w) k → read_span f w ≡ refused 20 k
  pub meets21 :
      (f : Format) (w : List ℕ) → Scanned f w → (k : ℕ) → Met f w (test21 f w) k → read_span f w ≡ refused 21 k
  pub meets22 :
      (f : Format) (w : List ℕ)
      → Scanned f w
      → Held f w (test21 f w)
      → (k : ℕ)
      → Met f w (test22 f w) k
      → read_span f w ≡ refused 22 k
  pub meets23 :
      (f : Format) (w : List ℕ)
      → Scanned f w
      → Held f w (test21 f w)
      → Held f w (test22 f w)
      → (k : ℕ)
      → Met f w (test23 f w) k
      → read_span f w ≡ refused 23 k
  pub meets24 :
      (f : Format) (w : List ℕ)
      → Scanned f w
      → Held f w (test21 f w)
      → Held f w (test22 f w)
      → Held f w (test23 f w)
      → (k : ℕ)
      → Met f w (test24 f w) k
      → read_span f w ≡ refused 24 k
  pub meets25 :
      (f : Format) (w : List ℕ)
      → Scanned f w
      → Held f w (test21 f w)
      → Held f w (test22 f w)
      → Held f w (test23 f w)
      → Held f w (test24 f w)
      → (k : ℕ)
      → Met f w (test25 f w) k
      → read_span f w ≡ refused 25 k
  pub meets26 :
      (f : Format) (w : List ℕ)
      → Scanned f w
      → Held f w (test21 f w)
      → Held f w (test22 f w)
      → Held f w (test23 f w)
      → Held f w (test24 f w)
      → Held f w (test25 f w)
      → (k : ℕ)
      → Met f w (test26 f w) k
      → read_span f w ≡ refused 26 k
  -- and there are no other numbers
  pub numbers : (f : Format) (w : List ℕ) (number place : ℕ) → read_span f w ≡ refused number place → (20 ≤ number) × (number ≤ 26)
  -- which words each test judges: at every other word it holds, so no word of the ancillary area is judged, and no picture word of a
  -- blanking line. 21: SAV and EAV,
  pub judged21 : (s : ℕ) (word : ℕ → ℕ) (j t : ℕ) → holds21 s word j t ≡ false → (j < 4) ⊎ ((1924 ≤ j) × (j ≤ 1927))
  -- 22: the line numbers; whether stream 1 names a line is judged at its LN0, not at its LN1,
  pub judged22 : (s : ℕ) (word : ℕ → ℕ) (j t : ℕ) → holds22 s word j t ≡ false → (1928 ≤ j) × (j ≤ 1929)
  pub nameless :
      (s : ℕ) (word : ℕ → ℕ) → line_of (word_of s word 1928 0) (word_of s word 1929 0) ≡ none → holds22 s word 1928 0 ≡ false
  pub asked_once : (s : ℕ) (word : ℕ → ℕ) → holds22 s word 1929 0 ≡ true
  -- 23: XYZ,
  pub judged23 : (s : ℕ) (word : ℕ → ℕ) (j t : ℕ) → holds23 s word j t ≡ false → (j ≡ 3) ⊎ (j ≡ 1927)
  -- 24: the CRCC,
  pub judged24 : (s : ℕ) (word : ℕ → ℕ) (j t : ℕ) → holds24 s word j t ≡ false → (j ≡ 1930) ⊎ (j ≡ 1931)
  -- 25: the picture, on lines 42 to 1121,
  pub judged25 :
      (s : ℕ) (word : ℕ → ℕ) (j t : ℕ) (f : Format)
      → holds25 s word f j t ≡ false
      → (4 ≤ j) × (j ≤ 1923) × (42 ≤ line_read s word) × (line_read s word ≤ 1121)
  -- 26: the fill
  pub judged26 : (s : ℕ) (word : ℕ → ℕ) (j t : ℕ) (f : Format) → holds26 s word f j t ≡ false → 1932 + (shape_of f).ancillary ≤ j
  -- an XYZ with at most one wrong bit does not pass for one with the other H (004, 6.2)
  pub other_h : (w : ℕ) (v h : Bool) → distance w (timing v h) ≤ 1 → has_h (not h) (nearest w) ≡ false

-- Tests 20 to 26 are document 01's rules (specs/Rules). Each test is asked where those before it hold, and is the rule there; so the place
-- that a refusal gives is the lowest at which the rule is not met.
pub record WindowRules : Type 0 where
  -- the symbols: where the rule is met at symbol k it is met, and the test holds, at those before it too
  pub scan :
      (f : Format) (w : List ℕ) (k : ℕ)
      → IsFormat f
      → k < length w
      → ((i : ℕ) → i < k → test20 f w i ≡ true)
      → Reflects (test20 f w k) (Rule20 (streams (shape_of f)) w k)
  pub scan_before :
      (f : Format) (w : List ℕ) (i k : ℕ)
      → IsFormat f
      → i ≤ k
      → Rule20 (streams (shape_of f)) w k
      → Rule20 (streams (shape_of f)) w i
  pub scan_holds :
      (f : Format) (w : List ℕ) (i k : ℕ)
      → IsFormat f
      → i ≤ k
      → Rule20 (streams (shape_of f)) w k
      → test20 f w i ≡ true
  -- any words, the place being word k / s of stream k % s
  pub timing :
      (f : Format) (word : ℕ → ℕ)
      → IsFormat f
      → (k : ℕ)
      → let s = streams (shape_of f) in
      Reflects (placed s (holds21 s word) k) (Rule21 (words_of f word) (k / s) (k % s))
  pub line_number :
      (f : Format) (word : ℕ → ℕ)
      → IsFormat f
      → (k : ℕ)
      → let s = streams (shape_of f) in
      Reflects (placed s (holds22 s word) k) (Rule22 (words_of f word) (k / s) (k % s))
  pub v :
      (f : Format) (word : ℕ → ℕ)
      → IsFormat f
      → Everywhere f (Rule21 (words_of f word))
      → Everywhere f (Rule22 (words_of f word))
      → (k : ℕ)
      → let s = streams (shape_of f) in
      Reflects (placed s (holds23 s word) k) (Rule23 (words_of f word) (k / s) (k % s))
  pub crcc :
      (f : Format) (word : ℕ → ℕ)
      → IsFormat f
      → Everywhere f (Rule21 (words_of f word))
      → (k : ℕ)
      → let s = streams (shape_of f) in
      Reflects (placed s (holds24 s word) k) (Rule24 (words_of f word) (k / s) (k % s))
  pub picture :
      (f : Format) (word : ℕ → ℕ)
      → IsFormat f
      → Everywhere f (Rule22 (words_of f word))
      → (k : ℕ)
      → let s = streams (shape_of f) in
      Reflects (placed s (holds25 s word f) k) (Rule25 f (words_of f word) (k / s) (k % s))
  pub fill :
      (f : Format) (word : ℕ → ℕ)
      → IsFormat f
      → (k : ℕ)
      → let s = streams (shape_of f) in
      Reflects (placed s (holds26 s word f) k) (Rule26 f (words_of f word) (k / s) (k % s))

-- What holds for a window that is read, and how a sent span is read.
pub record WindowLaws : Type 0 where
  -- there is one answer for a window
  pub delivered : (f : Format) (w : List ℕ) (r : Delivery) → read_span f w ≡ given r → r ≡ delivery_of f w
  -- K28.5 is at its first two symbols and K29.7 at the first two of its EAV, and neither is anywhere else (004, 7.1)
  pub k28_at :
      (f : Format) (w : List ℕ) (r : Delivery)
      → IsFormat f
      → read_span f w ≡ given r
      → (symbol_at w 0 ≡ symbol_of (start_of w) (number_of K28_5)) × (symbol_at w 1 ≡ symbol_of (running_at w 1) (number_of K28_5))
  pub only_k28 :
      (f : Format) (w : List ℕ) (r : Delivery)
      → IsFormat f
      → read_span f w ≡ given r
      → (i : ℕ)
      → i < symbols_in (shape_of f)
      → (e : Disparity)
      → symbol_at w i ≡ symbol_of e (number_of K28_5)
      → i < 2
  pub k29_at :
      (f : Format) (w : List ℕ) (r : Delivery)
      → IsFormat f
      → read_span f w ≡ given r
      → let k = eav_at (shape_of f) in
      (symbol_at w k ≡ symbol_of (running_at w k) (number_of K29_7))
      × (symbol_at w (k + 1) ≡ symbol_of (running_at w (k + 1)) (number_of K29_7))
  pub only_k29 :
      (f : Format) (w : List ℕ) (r : Delivery)
      → IsFormat f
      → read_span f w ≡ given r
      → (i : ℕ)
      → i < symbols_in (shape_of f)
      → (e : Disparity)
      → symbol_at w i ≡ symbol_of e (number_of K29_7)
      → (eav_at (shape_of f) ≤ i) × (i ≤ eav_at (shape_of f) + 1)
  -- a sent span passes tests 21 to 26
  pub sent_meets : (f : Format) (a : Request) → Sendable f a → Meets f (word_in (span_words f a))
  -- a sent span with one of the ten bits of one symbol inverted is refused
  pub inverted_refused :
      (f : Format) (a : Request) (d : Disparity) (i k : ℕ)
      → Sendable f a
      → i < symbols_in (shape_of f)
      → k < 10
      → let sent = span_symbols d f a in
      (number : ℕ) × (place : ℕ) × (read_span f (set sent i (inverted k (get_or sent i 0))) ≡ refused number place)
  -- a window that is read is the encoding of its words and content bytes
  pub encoded_again :
      (f : Format) (w : List ℕ) (r : Delivery)
      → IsFormat f
      → Symbols f (length w)
      → read_span f w ≡ given r
      → w
      ≡ symbols_from (start_of w)
      (chars_of (shape_of f) (content_in (shape_of f) w) (table (2 * pairs_in (shape_of f)) (word_at (shape_of f) w)))
  -- if nothing was repaired, and the ancillary area and any blanking line are blank, the answer may be sent, and is sent as the same window
  pub sent_again :
      (f : Format) (w : List ℕ) (r : Delivery)
      → IsFormat f
      → Symbols f (length w)
      → read_span f w ≡ given r
      → let s = streams (shape_of f) in
      let n = line_read s (word_at (shape_of f) w) in
      repair_count s (word_at (shape_of f) w) ≡ 0
      → ((j t : ℕ) → 1932 ≤ j → j < 1932 + (shape_of f).ancillary → t < s → word f w j t ≡ blank_word f)
      → (is_active n ≡ false → (j t : ℕ) → 4 ≤ j → j < 1924 → t < s → word f w j t ≡ blank_word f)
      → Sendable f (request_of f r (picture_of f w)) × (w ≡ span_symbols (start_of w) f (request_of f r (picture_of f w)))
