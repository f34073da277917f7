-- Which case of the listing an input is, and that it is what was put.
-- Assumes nothing.
use mathlib.Core.Path.{◌≡◌, refl, sym, ap, ◌∙◌}
use mathlib.Core.Bool.{true, false}
use mathlib.Core.List.{List}
use Prim.Native.Nat.{ℕ, ◌≤◌, ◌<◌}
use native.Mathlib.Omega.{arith}
use lib.ListN.{length, take, drop}
use lib.Seq.{sets, length-sets}
use borrow.Author.Tests.{lt-ltb, le-ltb}
use Rattle.span.specs.declared.format.Format.{Format}
use Rattle.span.specs.declared.length.SpanLengths.{SpanLengths}
use Rattle.span.specs.Format.{is_known, shape_of, samples_in, symbols_in}
use Rattle.span.proofs.Formats.{small}
use Rattle.recording.specs.Recording.{delivery_from}
use Rattle.text.specs.Words.{count_of, words_in_bytes}
use Rattle.text.proofs.WordsRead.{words_read}
use Rattle.list_spans.specs.Listing.{lines_of, refused_format, format_in, most_symbols, recorded_in, span_listing}

-- ---- which case it is

module _ (input : List ℕ) where
  pub too_short : length input < 2 → span_listing input ≡ refused_format
  too_short h = simp (lt-ltb (length input) 2 h)

  module _ (enough : 2 ≤ length input) where
    pub unknown : {f : Format} → f ≡ format_in input → is_known f ≡ false → span_listing input ≡ refused_format
    unknown is t = simp (le-ltb (length input) 2 enough, sym (ap is_known is) ∙ t)

    pub known : {f : Format} → f ≡ format_in input → is_known f ≡ true → span_listing input ≡ lines_of (delivery_from f (recorded_in (drop 2 input)) 0)
    known is t =
        simp (le-ltb (length input) 2 enough, sym (ap is_known is) ∙ t)
        (ap (λ (g : Format). lines_of (delivery_from g (recorded_in (drop 2 input)) 0)) (sym is))

-- what reading words leaves of a row: its length, and at least as many words as were read
module _ (bytes row : List ℕ) {words : List ℕ} (n : ℕ) where
  pub read_length : words ≡ sets row 0 (words_in_bytes n bytes) → length words ≡ length row
  read_length read = ap length read ∙ length-sets row 0 (words_in_bytes n bytes)

  pub enough_read : n ≡ count_of (length row) (length bytes) → words ≡ sets row 0 (words_in_bytes n bytes) → n ≤ length words
  enough_read count read = omega (arith, read_length read)

-- the symbols, read into a row that has room for the most
pub symbols_are : (bytes row : List ℕ) {words : List ℕ} (n : ℕ) → length row ≡ most_symbols → n ≡ count_of (length row) (length bytes)
    → words ≡ sets row 0 (words_in_bytes n bytes)
    → take n words ≡ recorded_in bytes
symbols_are bytes row {words} n room count read =
    let many : n ≡ count_of most_symbols (length bytes) = omega arith in
    ap (take n) read ∙ words_read n row bytes (omega arith) ∙ ap (λ (k : ℕ). words_in_bytes k bytes) many

-- a span has no more samples, whatever its format
pub few_samples : (f : Format) {l : SpanLengths} → l ≡ record { samples = samples_in (shape_of f); symbols = symbols_in (shape_of f) } → l.samples ≤ 7680
few_samples f e = omega (arith, ap (λ (k : SpanLengths). k.samples) e, (small f refl).half)

-- ---- what was put
