-- The characters of a span as the sender puts them: part after part, each over half the streams.
-- Assumes nothing.
use Rattle.std.proofs.Common.{◌≡◌, ℕ, ◌+◌, ◌*◌, ◌/◌, ◌<◌, ◌≤◌, true, false, List, ◌++◌, length, get_or, sym, refl, ap, ◌∙◌, ap₂, append_assoc, arith}
use borrow.Author.Tests.{not-false}
use Rattle.ground.specs.Written.{upto, table}
use Rattle.ground.proofs.Writing.{get_d_table, upto_same, table_same}
use Rattle.line.specs.Stream.{v_of, line_after}
use Rattle.symbol.specs.declared.disparity.Disparity.{Disparity}
use Rattle.encoder.specs.Inside.Tables.{offset_of, of_offset}
use Rattle.encoder.proofs.Entries.{offset_again}
use Rattle.crcc.specs.declared.crcc.CrccWords.{CrccWords}
use Rattle.crcc.specs.Crcc.{crc, crcc_words}
use Rattle.crcc.specs.Inside.Sums.{sum_in}
use Rattle.crcc.proofs.Crc.{crc_append}
use Rattle.row_crc.specs.Inside.Sums.{sums_in}
use Rattle.word.specs.LineNumber.{line_words}
use Rattle.word.specs.Timing.{timing}
use Rattle.span.specs.Content.{Content, content_of}
use Rattle.span.specs.declared.content.ContentBytes.{ContentBytes}
use Rattle.span.specs.declared.format.Format.{Format}
use Rattle.span.specs.declared.format.Shape.{Shape}
use Rattle.span.specs.Format.{is_known, shape_of, symbols_in}
use Rattle.span.specs.Encoding.{symbols_from, after_run}
use Rattle.span.specs.Numbers.{IsFormat}
use Rattle.span.specs.Sample.{allowed, sample_word, blank_word}
use Rattle.span.specs.Inside.Sample.{bounds_of}
use Rattle.span.specs.Span.{interleaved, fill_word, bytes, chars_from_sav, chars_from_eav, span_chars, span_symbols, span_after}
use Rattle.span.specs.Stream.{Request, picture, eav, line_number, register, crcc}
use Rattle.span.proofs.Formats.{known_told, small}
use Rattle.span.proofs.Lengths.{known_has_streams, length_chars}
use Rattle.span.proofs.Packing.{bytes_interleaved, bytes_replicate}
use Rattle.span.proofs.Parts.{parts_from_sav, parts_from_eav, blank_area}
use Rattle.span.proofs.Samples.{word_is, word_below}
use Rattle.send.specs.Inside.Put.{timing_chars, group_chars, scaled_words, picture_word, picture_chars, crcc_after, crcc_chars, offset_after, put, after_picture_chars, run_chars, blanking_chars, whole_chars, span_put, Fits}
use Rattle.request.specs.Inside.Send.{Accepted}
use Rattle.send.proofs.Passing.{sum_is}
use Rattle.send.proofs.Putting.{PutChars, made, renamed, told, whole, same_group}
use Rattle.send.proofs.Scaling.{length_words}

-- what stands in brackets another way
regroup : (t g h c r : List ℕ) → t ++ ((g ++ h) ++ (c ++ r)) ≡ (t ++ (g ++ (h ++ c))) ++ r
regroup t g h c r =
    ap (λ (l : List ℕ). t ++ l) (append_assoc g h (c ++ r) ∙ ap (λ (l : List ℕ). g ++ l) (sym (append_assoc h c r)) ∙ sym (append_assoc g (h ++ c) r))
    ∙ sym (append_assoc t (g ++ (h ++ c)) r)

module _ (f : Format) (a : Request) (good : Accepted f a) (factor : ℕ) (is : factor ≡ (bounds_of f a.line).factor) where
  abbrev pairs : ℕ
  pairs = (shape_of f).stream_pairs

  abbrev rows : List ℕ
  rows = scaled_words factor a.samples

  abbrev w : ℕ → ℕ → ℕ
  w = picture_word rows

  known : IsFormat f
  known = known_told f good.known

  may : (i : ℕ) → i < length a.samples → allowed f a.line (i / 1920) (get_or a.samples i 0) ≡ true
  may i h = not-false _ (good.allowed i h)

  -- each sample by the factor is a word
  pub fits : Fits factor a.samples
  fits = record { fits = λ i h. rw is (word_below f known a.line (i / 1920) (get_or a.samples i 0) (may i h)) }

  -- and the one that is sent
  sample_scaled : (t j : ℕ) → t < 2 * pairs → j < 1920 → sample_word f a.line t (get_or a.samples (1920 * t + j) 0) ≡ w t j
  unfolding scaled_words
  sample_scaled t j l h =
      let x : ℕ = get_or a.samples (1920 * t + j) 0 in
      let inside : 1920 * t + j < length a.samples = omega (arith, good.samples) in
      let place : (1920 * t + j) / 1920 ≡ t = omega arith in
      let ok : allowed f a.line t x ≡ true = ap (λ (u : ℕ). allowed f a.line u x) (sym place) ∙ may (1920 * t + j) inside in
      word_is f known a.line t x ok
      ∙ ap (λ (m : ℕ). x * m) (sym is)
      ∙ sym (get_d_table (length a.samples) (λ i. get_or a.samples i 0 * factor) (1920 * t + j) 0 inside)

  picture_is : bytes (interleaved (2 * pairs) 1920 (picture f a)) ≡ picture_chars pairs 1920 w
  unfolding picture picture_chars group_chars
  picture_is =
      bytes_interleaved pairs 1920 (picture f a)
      ∙ upto_same 1920 (λ j. group_chars pairs (λ t. get_or (picture f a t) j 0)) (λ j. group_chars pairs (λ t. w t j))
      (λ j h. same_group pairs (λ t. get_or (picture f a t) j 0) (λ t. w t j)
      (λ t l. get_d_table 1920 (λ j. sample_word f a.line t (get_or a.samples (1920 * t + j) 0)) j 0 h ∙ sample_scaled t j l h))

  words_are : (t : ℕ) → t < 2 * pairs → picture f a t ≡ table 1920 (w t)
  unfolding picture
  words_are t l =
      table_same 1920 (λ j. sample_word f a.line t (get_or a.samples (1920 * t + j) 0)) (w t) (λ j h. sample_scaled t j l h)

  abbrev next : ℕ
  next = line_after a.line

  abbrev xyz : ℕ
  xyz = timing (v_of next) true

  some : 1 ≤ pairs
  some = known_has_streams f good.known

  few : pairs ≤ 2
  few = (small f refl).half

  -- the CRC of a stream is the one that ran over its picture words, run on
  register_is : (t : ℕ) → t < 2 * pairs → register f a t ≡ crc (sum_in (sums_in rows) t) (eav a ++ line_number a)
  unfolding register
  register_is t l =
      let long : length rows ≡ 3840 * pairs = omega (arith, length_words factor a.samples refl, good.samples) in
      sym (crc_append 0 (picture f a t) (eav a ++ line_number a))
      ∙ ap (λ (c : ℕ). crc c (eav a ++ line_number a)) (ap (crc 0) (words_are t l) ∙ sum_is pairs rows some few long t l)

  crcc_words_are : (t : ℕ) → t < 2 * pairs → crcc_words (register f a t) ≡ crcc_after (sum_in (sums_in rows) t) xyz (line_words next)
  crcc_words_are t l = ap crcc_words (register_is t l)

  crcc_is : bytes (interleaved (2 * pairs) 2 (crcc f a)) ≡ crcc_chars pairs (sums_in rows) xyz (line_words next)
  unfolding crcc_chars group_chars upto
  crcc_is =
      bytes_interleaved pairs 2 (crcc f a)
      ∙ ap₂ (λ (x y : List ℕ). x ++ y)
      (same_group pairs (λ t. (crcc_words (register f a t)).crcc0) (λ t. (crcc_after (sum_in (sums_in rows) t) xyz (line_words next)).crcc0)
      (λ t l. ap (λ (q : CrccWords). q.crcc0) (crcc_words_are t l)))
      (same_group pairs (λ t. (crcc_words (register f a t)).crcc1) (λ t. (crcc_after (sum_in (sums_in rows) t) xyz (line_words next)).crcc1)
      (λ t l. ap (λ (q : CrccWords). q.crcc1) (crcc_words_are t l)))

  number_is :
      bytes (interleaved (2 * pairs) 2 (λ _. line_number a)) ≡ group_chars pairs (λ _. (line_words next).ln0) ++ group_chars pairs (λ _. (line_words next).ln1)
  unfolding group_chars upto
  number_is = bytes_interleaved pairs 2 (λ _. line_number a)

  abbrev content : ContentBytes
  content = content_of f a.content

  abbrev blanks : List ℕ
  blanks = blanking_chars (shape_of f) (blank_word f)

  eav_is : chars_from_eav f a ≡ after_picture_chars pairs (sums_in rows) next content ++ blanks
  unfolding timing_chars after_picture_chars run_chars
  eav_is =
      parts_from_eav f a some
      ∙ ap (λ (l : List ℕ). timing_chars pairs 266 content.eav1 content.eav2 xyz ++ l)
      (ap₂ (λ (x y : List ℕ). x ++ y) number_is
      (ap₂ (λ (x y : List ℕ). x ++ y) crcc_is
      (ap₂ (λ (x y : List ℕ). x ++ y) (blank_area f a.line) (bytes_replicate (shape_of f).fill_pairs fill_word))))
      ∙ regroup (timing_chars pairs 266 content.eav1 content.eav2 xyz) (group_chars pairs (λ _. (line_words next).ln0)) (group_chars pairs (λ _. (line_words next).ln1))
      (crcc_chars pairs (sums_in rows) xyz (line_words next)) blanks

  sav_is : chars_from_sav f a ≡ timing_chars pairs 261 content.sav1 content.sav2 (timing (v_of a.line) false) ++ picture_chars pairs 1920 w
  unfolding timing_chars
  sav_is =
      parts_from_sav f a some
      ∙ ap (λ (l : List ℕ). timing_chars pairs 261 content.sav1 content.sav2 (timing (v_of a.line) false) ++ l) picture_is

  pub whole_is : span_chars f a
      ≡ timing_chars pairs 261 content.sav1 content.sav2 (timing (v_of a.line) false)
      ++ (picture_chars pairs 1920 w ++ (after_picture_chars pairs (sums_in rows) next content ++ blanks))
  unfolding span_chars
  whole_is =
      ap₂ (λ (x y : List ℕ). x ++ y) sav_is eav_is
      ∙ append_assoc (timing_chars pairs 261 content.sav1 content.sav2 (timing (v_of a.line) false)) (picture_chars pairs 1920 w) (after_picture_chars pairs (sums_in rows) next content ++ blanks)

  -- what is put of its words is the span, and fills the buffer
  pub span_put_lem : (d : Disparity) {r : Disparity} (before : List ℕ) {ws after : List ℕ} → ws ≡ scaled_words factor a.samples
      → length before ≡ symbols_in (shape_of f)
      → (r ≡ of_offset (offset_after (offset_of d) (span_put f a.line a.content ws))) × (after ≡ put (offset_of d) (span_put f a.line a.content ws) 0 before)
      → (r ≡ span_after d f a) × (after ≡ span_symbols d f a)
  unfolding whole_chars span_after span_symbols
  span_put_lem d before {ws} q sized e =
      let names : span_put f a.line a.content ws ≡ span_chars f a =
      ap (span_put f a.line a.content) q ∙ sym whole_is in
      let mine = renamed (sym names) (made (refl, e.1)) in
      let start : of_offset (offset_of d) ≡ d = offset_again d in (
        e.0 ∙ told mine ∙ ap (λ (e : Disparity). after_run e (span_chars f a)) start,
        whole mine (length_chars f a some ∙ sym sized) ∙ ap (λ (e : Disparity). symbols_from e (span_chars f a)) start,
      )

-- a shape, content bytes and an offset that are those asked for
module _ (f : Format) {p : Shape} (is : p ≡ shape_of f) where
  pub streams_there : is_known f ≡ true → 1 ≤ p.stream_pairs
  streams_there known = rw is (known_has_streams f known)

  pub as_asked : (d : Disparity) (n : ℕ) (named : Content) (ws : List ℕ) {o e b : ℕ} {c : ContentBytes} {before after : List ℕ} → o ≡ offset_of d
      → c ≡ content_of f named → b ≡ blank_word f → PutChars o (whole_chars p b ws n c) 0 before e after
      → PutChars (offset_of d) (span_put f n named ws) 0 before e after
  as_asked d n named ws q t u made = rw (is, q, t, u) at made
