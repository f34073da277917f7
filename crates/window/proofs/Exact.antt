-- A window is read if and only if it is the encoding of words that meet the rules, and then it is the encoding of the words and content
-- bytes read from it, and of nothing else.
-- Assumes nothing.
use mathlib.Core.Path.{◌≡◌, sym, ap, ◌∙◌}
use mathlib.Core.Bool.{true}
use mathlib.Core.List.{List}
use Prim.Native.Nat.{ℕ, ◌+◌, ◌*◌, ◌≤◌, ◌<◌}
use native.Mathlib.Omega.{arith}
use lib.ListN.{length, get_or}
use lib.Seq.{ext_get_or}
use Rattle.ground.specs.Answer.{given}
use Rattle.ground.specs.Written.{upto, table}
use Rattle.ground.proofs.Writing.{length_table, get_d_table}
use Rattle.symbol.specs.declared.disparity.Disparity.{Disparity}
use Rattle.symbol.specs.declared.special.Special.TheVariants.{K28_5, K29_7}
use Rattle.span.specs.declared.content.ContentBytes.{ContentBytes}
use Rattle.span.specs.declared.format.Format.{Format}
use Rattle.span.specs.declared.format.Shape.{Shape}
use Rattle.span.specs.Encoding.{symbols_from, after_run}
use Rattle.span.specs.Format.{is_known, shape_of, streams, pairs_in, symbols_in, eav_at}
use Rattle.span.proofs.Encoding.{length_symbols, symbol_at_lem}
use Rattle.span.proofs.Lengths.{known_has_streams}
use Rattle.window.specs.declared.delivery.Delivery.{Delivery}
use Rattle.window.specs.Encoded.{chars_of, Encodes, word_in, words_of, Meets}
use Rattle.window.specs.Read.{content_in, repairs_of, picture_of, read_span}
use Rattle.window.specs.Rules.{Names, Follows}
use Rattle.window.specs.Scan.{meant, byte_of, symbol_at, start_of}
use Rattle.window.specs.Tests.{sum_of, repair_count, repairs_at, rows}
use Rattle.window.specs.Words.{word_at}
use Rattle.word.specs.Received.{wrong_bits, bit_wrong}
use Rattle.window.specs.Inside.Encoded.{Restored, Passes, answered}
use Rattle.window.proofs.Accepting.{Accepted, accepted_told, passes_given}
use Rattle.window.proofs.Bytes.{byte_sav, byte_eav, byte_else, word_below, byte_again}
use Rattle.window.proofs.Characters.{replacing, length_chars, char_sav, char_eav, char_byte}
use Rattle.window.proofs.Encoded.{encoded_word, restored_told, encoded_read, encoded_picture}
use Rattle.window.proofs.Placing.{four, each_place}
use Rattle.window.proofs.Rules.{line_is, passes_meets, meets_passes}
use Rattle.window.proofs.Specials.{symbol_read, k28_5_read, k29_7_read, byte_read}
use Rattle.window.proofs.Symbols.{running_chars}

module _ (f : Format) (w : List ℕ) (known : is_known f ≡ true) (long : length w ≡ symbols_in (shape_of f)) (acc : Accepted f w) where
  abbrev p : Shape
  p = shape_of f

  -- all words of the window, and the characters of these words and of its content bytes
  abbrev words : List ℕ
  words = table (2 * pairs_in p) (word_at p w)

  abbrev c : ContentBytes
  c = content_in p w

  abbrev chars : List ℕ
  chars = chars_of p c words

  some_streams : 1 ≤ p.stream_pairs
  some_streams = known_has_streams f known

  length_words : length words ≡ 2 * pairs_in p
  length_words = length_table (2 * pairs_in p) (word_at p w)

  all_chars_lem : length chars ≡ symbols_in p
  all_chars_lem = length_chars p some_streams c words length_words

  -- ---- the characters are those that the symbols stand for

  -- where a byte stands, the symbol stands for one
  is_byte : (i : ℕ) → i < symbols_in p → 2 ≤ i → (eav_at p ≤ i → eav_at p + 2 ≤ i) → meant (symbol_at w i) ≡ byte_of (symbol_at w i)
  is_byte i h past q = omega (arith, byte_read f w known acc i h past q)

  -- in place of the first four bytes of SAV and EAV
  in_sav : (i : ℕ) → i < 4 → meant (symbol_at w i) ≡ get_or (replacing K28_5 c.sav1 c.sav2) i 0
  in_sav =
      four (λ i. meant (symbol_at w i) ≡ get_or (replacing K28_5 c.sav1 c.sav2) i 0)
      (k28_5_read f w known acc 0 (omega arith))
      (k28_5_read f w known acc 1 (omega arith))
      (is_byte 2 (omega (arith, some_streams)) (omega arith) (λ l. omega (arith, some_streams)))
      (is_byte 3 (omega (arith, some_streams)) (omega arith) (λ l. omega (arith, some_streams)))

  in_eav : (i : ℕ) → i < 4 → meant (symbol_at w (eav_at p + i)) ≡ get_or (replacing K29_7 c.eav1 c.eav2) i 0
  in_eav =
      four (λ i. meant (symbol_at w (eav_at p + i)) ≡ get_or (replacing K29_7 c.eav1 c.eav2) i 0)
      (k29_7_read f w known acc (eav_at p + 0) (omega arith) (omega arith))
      (k29_7_read f w known acc (eav_at p + 1) (omega arith) (omega arith))
      (is_byte (eav_at p + 2) (omega (arith, some_streams)) (omega arith) (λ l. omega arith))
      (is_byte (eav_at p + 3) (omega (arith, some_streams)) (omega arith) (λ l. omega arith))

  char_is : (i : ℕ) → i < symbols_in p → meant (symbol_at w i) ≡ get_or chars i 0
  char_is =
      each_place (eav_at p)
      (λ i l h. in_sav i l ∙ sym (char_sav p some_streams c words length_words i l))
      (λ i l h. in_eav i l ∙ sym (char_eav p some_streams c words length_words i l))
      (λ i past q h.
      is_byte i h (omega arith) (λ l. omega (arith, q l))
      ∙ sym (byte_else p w i past q)
      ∙ sym (byte_again p w i h)
      ∙ sym (char_byte p some_streams c words length_words i past q))

  each_char : (i : ℕ) → i < length chars → meant (symbol_at w i) ≡ get_or chars i 0
  each_char i l = char_is i (rw all_chars_lem at l)

  -- ---- so the window is the encoding of its words and content bytes

  pub encoded_again :
      w
      ≡ symbols_from (start_of w)
      (chars_of (shape_of f) (content_in (shape_of f) w) (table (2 * pairs_in (shape_of f)) (word_at (shape_of f) w)))
  encoded_again =
      ext_get_or 0 w (symbols_from (start_of w) chars) (long ∙ sym all_chars_lem ∙ sym (length_symbols (start_of w) chars))
      (λ i h.
      let l : i < length chars = omega (arith, long, all_chars_lem) in
      symbol_read f w acc i (rw long at h)
      ∙ rw (running_chars w chars each_char i (omega arith), each_char i l) (sym (symbol_at_lem (start_of w) chars i l)))

  -- word k of the list is word k of the window
  word_again : (k : ℕ) → k < 2 * pairs_in p → word_in words k ≡ word_at p w k
  word_again k h = get_d_table (2 * pairs_in p) (word_at p w) k 0 h

  -- all of it: content bytes that are bytes, as many words as there are, of twelve bits
  pub accepted_encodes :
      Encodes f w (start_of w) (content_in (shape_of f) w) (table (2 * pairs_in (shape_of f)) (word_at (shape_of f) w))
  accepted_encodes =
      record {
        symbols = encoded_again;
        content = record { sav1 = omega arith; sav2 = omega arith; eav1 = omega arith; eav2 = omega arith };
        long = length_words;
        small = λ k h. rw (word_again k (omega (arith, length_words))) (word_below p w k);
      }

  -- the replaced bytes of its words are the fixed ones, as they were taken to be
  restored : Restored p words
  restored =
      record {
        sav = λ i h. byte_again p w i (omega (arith, some_streams)) ∙ byte_sav p w i h;
        eav = λ i h. byte_again p w (eav_at p + i) (omega (arith, some_streams)) ∙ byte_eav p w some_streams i h;
      }

  -- so the list has the words that are read, at every place, also after the window
  pub words_again : word_in (table (2 * pairs_in (shape_of f)) (word_at (shape_of f) w)) ≡ word_at (shape_of f) w
  words_again = sym (encoded_word f known w (start_of w) c words accepted_encodes restored)

  -- and passes the tests that they pass
  pub accepted_passes : Passes f (word_in (table (2 * pairs_in (shape_of f)) (word_at (shape_of f) w)))
  accepted_passes = rw words_again acc.words

-- ---- exactly the encodings of words that meet the rules are read

module _ (f : Format) (w : List ℕ) (known : is_known f ≡ true) where
  -- what is answered: the line before the one that stream 1 names, the content bytes and disparities of the encoding, the wrong bits of all
  -- XYZ together and bit by bit; and the picture words
  pub exact_read : (d : Disparity) (c : ContentBytes) (words : List ℕ) → Encodes f w d c words → Meets f (word_in words)
      → (m n : ℕ) → Names (words_of f (word_in words)) m → Follows n m
      → let s = streams (shape_of f) in
      let word = words_of f (word_in words) in
      (read_span f w
      ≡ given (record {
        line = record { 0 = n };
        content = c;
        before = d;
        after = after_run d (chars_of (shape_of f) c words);
        repairs =
            repairs_of (sum_of s (λ t. wrong_bits (word 3 t) + wrong_bits (word 1927 t)))
            (λ b. sum_of s (λ t. bit_wrong b (word 3 t) + bit_wrong b (word 1927 t)));
      }))
      × (picture_of f w ≡ upto s (λ t. table 1920 (λ i. word (4 + i) t)))
  unfolding repair_count repairs_at rows
  exact_read d c words e meets m n names follows =
      let word = word_in words in
      let passes = meets_passes f known word meets in
      let restored = restored_told f known words e.long passes.timing in (
        encoded_read f known w d c words e restored
            ∙ passes_given f word passes (answered f d c words)
            ∙ rw (line_is (streams (shape_of f)) word m names n follows),
        encoded_picture f known w d c words e restored,
      )

  -- and the words read are these
  pub exact_word : (d : Disparity) (c : ContentBytes) (words : List ℕ) → Encodes f w d c words → Meets f (word_in words)
      → (k : ℕ) → word_at (shape_of f) w k ≡ word_in words k
  exact_word d c words e meets k =
      let restored = restored_told f known words e.long (meets_passes f known (word_in words) meets).timing in
      ap (λ (word : ℕ → ℕ). word k) (encoded_word f known w d c words e restored)

  pub exact_only_if : {r : Delivery} → length w ≡ symbols_in (shape_of f) → read_span f w ≡ given r
      → (d : Disparity) × (c : ContentBytes) × (words : List ℕ) × Encodes f w d c words × Meets f (word_in words)
  exact_only_if {r} long e =
      let acc = accepted_told f w r e in (
        start_of w,
        content_in (shape_of f) w,
        table (2 * pairs_in (shape_of f)) (word_at (shape_of f) w),
        accepted_encodes f w known long acc,
        passes_meets f known _ (accepted_passes f w known long acc),
      )
