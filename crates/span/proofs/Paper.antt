-- A span in the papers' own numerals, proved: each field cites the law that says it.
-- Assumes nothing.
use mathlib.Core.Path.{◌≡◌, refl, sym, ap, ap₂, ◌∙◌}
use mathlib.Core.Bool.{true, false}
use mathlib.Core.List.{List, ◌++◌}
use Prim.Native.Nat.{ℕ, zero, suc, ◌+◌, ◌-◌, ◌*◌, ◌%◌, ◌≤◌, ◌<◌}
use native.Mathlib.Omega.{arith}
use lib.ListN.{length, get_or, replicate, length-append}
use lib.Seq.{ext_get_or}
use lib.Dec.{ltb}
use borrow.Author.Tests.{eq-eqb, eqb-true, ne_eqb, lt-ltb, ltb-true, ltb-false}
use Rattle.ground.specs.Written.{table}
use Rattle.ground.proofs.Cases.{on_test}
use Rattle.ground.proofs.Ranges.{is_within, not_within}
use Rattle.ground.proofs.Writing.{replicate_table, length_table, get_d_table, get_d_first, get_d_second}
use Rattle.line.specs.Stream.{v_of, line_after}
use Rattle.word.specs.LineNumber.{ln0, ln1}
use Rattle.word.specs.Timing.{timing}
use Rattle.word.specs.Word.{guarded}
use Rattle.packing.specs.Bytes.{bytes_of}
use Rattle.crcc.specs.Crcc.{crc, crcc_words}
use Rattle.span.specs.declared.format.Format.{Format}
use Rattle.span.specs.Format.{numbered, shape_of, streams, samples_in, pairs_in}
use Rattle.span.specs.Numbers.{IsFormat}
use Rattle.span.specs.Paper.{Active, word_of, SpanPaper}
use Rattle.span.specs.Sample.{blank_word, sample_word}
use Rattle.span.specs.Span.{span_words, span_chars, bytes_listed}
use Rattle.span.specs.Stream.{Request, sav, picture, eav, line_number, register, crcc, ancillary}
use Rattle.span.proofs.Blank.{fill_meets_1, fill_meets_4}
use Rattle.span.proofs.Contents.{named_as_given, none_named_zeros}
use Rattle.span.proofs.Formats.{is_known_lem, unknown}
use Rattle.span.proofs.Images.{images_of_120, images_of_100, images_of_50}
use Rattle.span.proofs.LengthCalls.{lengths_refused, lengths_of_120, lengths_of_100, lengths_of_50}
use Rattle.span.proofs.Lengths.{table_of_formats, known_has_streams, length_of_symbols}
use Rattle.span.proofs.Numbers.{blank_told, blank_is}
use Rattle.span.proofs.Places.{sav_words, picture_word_lem, eav_words, line_number_words, crcc_words_lem, ancillary_blank, fill_word_lem, char_at_sync_sav, char_at_sync_eav, char_at_lem, span_symbol_at, word_at_sav, word_at_eav}
use Rattle.span.proofs.Signals.{signal_is}

-- a format in document 01's numbers has streams
has_streams : (f : Format) → IsFormat f → 1 ≤ (shape_of f).stream_pairs
has_streams f k = known_has_streams f (is_known_lem f k)

-- ---- V of a line and of the line after

v_active : (n : ℕ) → Active n → v_of n ≡ false
v_active n h = simp (is_within 42 1121 n h.0 h.1)

v_blanking : (n : ℕ) → (Active n → ⊥) → v_of n ≡ true
v_blanking n out = simp (not_within 42 1121 n (λ p q. out (p, q)))

-- ---- one stream
module _ (f : Format) (a : Request) (t : ℕ) (l : t < streams (shape_of f)) where
  abbrev n : ℕ
  n = a.line

  sav_active : Active n → word_of f a 3 t ≡ 0x800
  unfolding timing
  sav_active h = (sav_words f a t l).3 ∙ rw (v_active n h)

  sav_blanking : (Active n → ⊥) → word_of f a 3 t ≡ 0xAB0
  unfolding timing
  sav_blanking out = (sav_words f a t l).3 ∙ rw (v_blanking n out)

  -- the 1,926 words that the CRCC covers
  abbrev covered : List ℕ
  covered = picture f a t ++ (eav a ++ line_number a)

  long : length covered ≡ 1926
  unfolding picture
  long = length-append (picture f a t) (eav a ++ line_number a) ∙ ap (λ (k : ℕ). k + 6) (length_table 1920 _)

  -- each of them, from the SAV on and from the EAV on
  before_eav : (i : ℕ) → i < 1920 → get_or covered i 0 ≡ word_of f a (4 + i) t
  unfolding picture
  before_eav i h =
      get_d_first (picture f a t) (eav a ++ line_number a) 1920 i 0 (length_table 1920 _) h
      ∙ sym (word_at_sav f a t l (4 + i) (omega arith) ∙ get_d_second (sav a) (picture f a t) 4 i 0 refl)

  from_eav_lem : (k : ℕ) → k < 6 → get_or covered (1920 + k) 0 ≡ word_of f a (1924 + k) t
  unfolding picture
  from_eav_lem k h =
      get_d_second (picture f a t) (eav a ++ line_number a) 1920 k 0 (length_table 1920 _)
      ∙ sym (word_at_eav f a t l k (omega arith)
      ∙ get_d_first (eav a ++ line_number a) (crcc f a t ++ ancillary f a.line t) 6 k 0 refl h)

  each : (i : ℕ) → i < 1926 → get_or covered i 0 ≡ word_of f a (4 + i) t
  each i h =
      on_test (ltb i 1920)
      (λ b. before_eav i (ltb-true i 1920 b))
      (λ b.
      let from : 1920 ≤ i = ltb-false i 1920 b in
      let e : i ≡ 1920 + (i - 1920) = omega arith in
      let g : 1924 + (i - 1920) ≡ 4 + i = omega arith in
      ap (λ (k : ℕ). get_or covered k 0) e ∙ from_eav_lem (i - 1920) (omega arith) ∙ ap (λ (j : ℕ). word_of f a j t) g)

  -- they are words 4 to 1929 of the stream
  covered_words : covered ≡ table 1926 (λ i. word_of f a (4 + i) t)
  covered_words =
      ext_get_or 0 covered (table 1926 (λ i. word_of f a (4 + i) t)) (long ∙ sym (length_table 1926 _))
      (λ i h. let b : i < 1926 = omega (arith, long) in each i b ∙ sym (get_d_table 1926 (λ i. word_of f a (4 + i) t) i 0 b))

  crcc_pair_lem :
      let c = crc 0 (table 1926 (λ i. word_of f a (4 + i) t)) in
      (word_of f a 1930 t ≡ (crcc_words c).crcc0) × (word_of f a 1931 t ≡ (crcc_words c).crcc1)
  unfolding register
  crcc_pair_lem = rw (← covered_words) (crcc_words_lem f a t l)

  -- the line after
  eav_active : 41 ≤ n → n ≤ 1120 → word_of f a 1927 t ≡ 0x9D0
  unfolding timing
  eav_active p q =
      let after : line_after n ≡ n + 1 = simp (lt-ltb n 1125 (omega arith)) in
      (eav_words f a t l).3 ∙ rw (v_active (line_after n) (rw after (omega arith, omega arith)))

  eav_blanking : (41 ≤ n → n ≤ 1120 → ⊥) → word_of f a 1927 t ≡ 0xB60
  unfolding timing
  eav_blanking out =
      (eav_words f a t l).3 ∙ rw (v_blanking (line_after n) (λ h. on_test (ltb n 1125)
      (λ b. let x : line_after n ≡ n + 1 = simp b in out (omega (arith, h.0, x)) (omega (arith, h.1, x)))
      (λ b. let x : line_after n ≡ 1 = simp b in absurd (omega (arith, h.0, x)))))

  line_number_lem : n ≤ 1124 → (word_of f a 1928 t ≡ ln0 (n + 1)) × (word_of f a 1929 t ≡ ln1 (n + 1))
  line_number_lem h =
      let after : line_after n ≡ n + 1 = simp (lt-ltb n 1125 (omega arith)) in rw (← after) (line_number_words f a t l)

  line_number_last : n ≡ 1125 → (word_of f a 1928 t ≡ 0x810) × (word_of f a 1929 t ≡ 0x800)
  unfolding ln0 ln1 guarded
  line_number_last e =
      let words = line_number_words f a t l in
      let after : line_after n ≡ 1 = ap line_after e in
      (words.0 ∙ ap ln0 after, words.1 ∙ ap ln1 after)

  -- the picture
  module _ (i x : ℕ) (h : i < 1920) (e : get_or a.samples (1920 * t + i) 0 ≡ x) where
    is_word_lem : word_of f a (4 + i) t ≡ sample_word f n t x
    is_word_lem = picture_word_lem f a t l i h ∙ ap (sample_word f n t) e

    ten : f.depth ≡ 10 → Active n → x ≤ 1023 → word_of f a (4 + i) t ≡ 4 * x
    ten d on b =
        let w : x * 4 % 4096 ≡ 4 * x = omega arith in
        is_word_lem ∙ simp (is_within 42 1121 n on.0 on.1, eq-eqb f.depth 10 d) w

    twelve : f.depth ≡ 12 → Active n → x ≤ 4095 → word_of f a (4 + i) t ≡ x
    twelve d on b =
        let w : x % 4096 ≡ x = omega arith in
        is_word_lem ∙ simp (is_within 42 1121 n on.0 on.1, ne_eqb f.depth 10 (λ z. omega arith)) w

    blanking : (Active n → ⊥) → word_of f a (4 + i) t ≡ x
    blanking out = is_word_lem ∙ simp (not_within 42 1121 n (λ p q. out (p, q)))

-- ---- characters 12 to 14 of two streams

two_streams : (number : ℕ) → 1 ≤ number → number ≤ 2 → streams (numbered number) ≡ 2
two_streams zero p q = absurd (omega arith)
two_streams (suc zero) p q = refl
two_streams (suc (suc zero)) p q = refl
two_streams (suc (suc (suc number))) p q = absurd (omega arith)

module _ (f : Format) (a : Request) (known : IsFormat f) (few : f.number ≤ 2) (p : word_of f a 4 0 ≡ 0xABC) (q : word_of f a 4 1 ≡ 0xDEF) where
  two : streams (shape_of f) ≡ 2
  unfolding shape_of
  two = two_streams f.number known.from few

  -- words 8 and 9 are the first of the picture
  byte_of_lem : (i : ℕ) → i < 3 → get_or (span_chars f a) (12 + i) 0 ≡ get_or (bytes_listed (bytes_of 0xABC 0xDEF)) i 0
  byte_of_lem i h =
      let many : 5 ≤ pairs_in (shape_of f) = omega (arith, two) in
      let first : get_or (span_words f a) 8 0 ≡ 0xABC = rw two at p in
      let second : get_or (span_words f a) 9 0 ≡ 0xDEF = rw two at q in
      char_at_lem f a (has_streams f known) 4 i many h (omega arith) (λ l. absurd (omega (arith, two)))
      ∙ ap₂ (λ (x y : ℕ). get_or (bytes_listed (bytes_of x y)) i 0) first second

  abcdef : (get_or (span_chars f a) 12 0 ≡ 0xBC) × (get_or (span_chars f a) 13 0 ≡ 0xFA) × (get_or (span_chars f a) 14 0 ≡ 0xDE)
  unfolding bytes_of
  abcdef = (byte_of_lem 0 (omega arith), byte_of_lem 1 (omega arith), byte_of_lem 2 (omega arith))

pub span_paper : SpanPaper
span_paper = record {
  fields_as_given = λ number depth component structure size. (refl, refl, refl, refl, refl);
  plain_is = λ number depth. refl;
  table_of_formats = table_of_formats;
  lengths120 = lengths_of_120;
  lengths100 = lengths_of_100;
  lengths50 = lengths_of_50;
  lengths_meets1 = λ f x. lengths_refused f (unknown f x);
  fill_meets1 = λ f row x. fill_meets_1 f row (unknown f x);
  fill_meets4 = λ f row k. fill_meets_4 f row (is_known_lem f k);
  symbols_of_span = λ d f a k. length_of_symbols f a (has_streams f k) d;
  images120 = images_of_120;
  images100 = images_of_100;
  images50 = images_of_50;
  named_as_given = named_as_given;
  none_named_zeros = none_named_zeros;
  blank_word_is = λ f k. blank_told f k (blank_word f) refl;
  blank_allowed = λ f k n t x out b. simp (not_within 42 1121 n (λ p q. out (p, q))) (eq-eqb x (blank_word f) (blank_is f k x b));
  blank_alone = λ f k n t x out ok. blank_told f k x (eqb-true x (blank_word f) (simp (not_within 42 1121 n (λ p q. out (p, q))) at ok));
  blank_row_is = λ f k m w e b. sym (replicate_table (samples_in (shape_of f)) (blank_word f)) ∙ ap₂ replicate (sym e) (sym (blank_is f k w b));
  sav_words = λ f a t l. let w = sav_words f a t l in (w.0, w.1, w.2);
  sav_active = sav_active;
  sav_blanking = sav_blanking;
  picture_ten = λ f a t i x l. ten f a t l i x;
  picture_twelve = λ f a t i x l. twelve f a t l i x;
  picture_blanking = λ f a t i x l. blanking f a t l i x;
  eav_words = λ f a t l. let w = eav_words f a t l in (w.0, w.1, w.2);
  eav_active = eav_active;
  eav_blanking = eav_blanking;
  line_number_words = line_number_lem;
  line_number_last = line_number_last;
  crcc_pair = crcc_pair_lem;
  ancillary_blank = λ f a t k l i h. blank_told f k _ (ancillary_blank f a t l i h);
  fill_words = fill_word_lem;
  sav_chars = char_at_sync_sav;
  eav_chars = λ f a k. char_at_sync_eav f a (has_streams f k);
  byte_chars = λ f a k. char_at_lem f a (has_streams f k);
  abcdef = abcdef;
  symbol_at = λ f a k. span_symbol_at f a (has_streams f k);
  signal_is = signal_is;
}
