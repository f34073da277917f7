-- Reading a span in document 01's own numbers ("Receiving and finding" and its table of refusals): which windows are read, as what, and
-- what every window that is read has. `proofs/Paper` proves each. Words and streams count from 0, so the paper's stream 1 is stream 0.
-- Assumes nothing.
use Rattle.std.specs.Prelude.{ℕ, ◌+◌, ◌*◌, ◌/◌, ◌≤◌, ◌<◌, ◌≡◌, Bool, List, [], ◌∷◌, ◌⊎◌, sum, length, get_or, set}
use Rattle.ground.specs.Answer.{refused, given}
use Rattle.ground.specs.Written.{upto, table}
use Rattle.symbol.specs.declared.disparity.Disparity.{Disparity}
use Rattle.word.specs.Repair.{distance, differs_at}
use Rattle.word.specs.Timing.{timing_code}
use Rattle.span.specs.declared.content.ContentBytes.{ContentBytes}
use Rattle.span.specs.declared.format.Format.{Format}
use Rattle.span.specs.Encoding.{after_run}
use Rattle.span.specs.Format.{format_from, shape_of, streams, pairs_in}
use Rattle.span.specs.Numbers.{IsFormat, Symbols}
use Rattle.span.specs.Span.{interleaved, bytes, span_words}
use Rattle.span.specs.Stream.{Request}
use Rattle.window.specs.declared.delivery.Delivery.{Delivery}
use Rattle.window.specs.Encoded.{chars_of, Encodes, word_in, words_of, Meets, IsXyz, Disturbed, wrong_at, DisturbedBefore, request_of, SentBut}
use Rattle.window.specs.Read.{each_bit, repairs_of, delivery_of, picture_of, read_span}
use Rattle.window.specs.Rules.{Names, Follows}
use Rattle.window.specs.Tests.{sum_of}
use Rattle.word.specs.Received.{repaired, wrong_bits, bit_wrong}
use Rattle.window.specs.Words.{fixed_byte, word_at}

-- word j of stream t of a window
abbrev pub word_of_window : Format → List ℕ → ℕ → ℕ → ℕ
word_of_window f w = words_of f (word_at (shape_of f) w)

pub record WindowPaper : Type 0 where
  -- ---- which windows are read: the encodings of words that meet the rules, and no others

  -- words that meet the rules name a line, which comes after one line,
  pub line_named :
      (f : Format) (word : ℕ → ℕ)
      → IsFormat f
      → Meets f word
      → (m : ℕ) × (n : ℕ) × Names (words_of f word) m × Follows n m
  -- and the encoding of such words, whoever made it, is read: as line n, with its content bytes and disparities, the wrong bits of all XYZ
  -- together and bit by bit, and its picture words; no other window is read
  pub exact_if :
      (f : Format) (w : List ℕ) (d : Disparity) (c : ContentBytes) (words : List ℕ)
      → IsFormat f
      → Encodes f w d c words
      → Meets f (word_in words)
      → (m n : ℕ)
      → Names (words_of f (word_in words)) m
      → Follows n m
      → let s = streams (shape_of f) in
      let word = words_of f (word_in words) in
      (read_span f w
      ≡ given (record {
        line = record { 0 = n };
        content = c;
        before = d;
        after = after_run d (chars_of (shape_of f) c words);
        repairs =
            repairs_of (sum_of s (λ t. wrong_bits (word 3 t) + wrong_bits (word 1927 t)))
            (λ b. sum_of s (λ t. bit_wrong b (word 3 t) + bit_wrong b (word 1927 t)));
      }))
      × (picture_of f w ≡ upto s (λ t. table 1920 (λ i. word (4 + i) t)))
  pub exact_only_if :
      (f : Format) (w : List ℕ) (r : Delivery)
      → IsFormat f
      → Symbols f (length w)
      → read_span f w ≡ given r
      → (d : Disparity) × (c : ContentBytes) × (words : List ℕ) × Encodes f w d c words × Meets f (word_in words)
  -- the words read from such an encoding are the words encoded
  pub words_encoded :
      (f : Format) (w : List ℕ) (d : Disparity) (c : ContentBytes) (words : List ℕ)
      → IsFormat f
      → Encodes f w d c words
      → Meets f (word_in words)
      → (k : ℕ)
      → word_at (shape_of f) w k ≡ word_in words k
  -- the encoding of words that begin as a sent span does is refused at the first XYZ with two wrong bits, whatever stands behind it
  pub beyond_repair :
      (f : Format) (a : Request) (w : List ℕ) (d : Disparity) (c : ContentBytes) (words : List ℕ) (k : ℕ)
      → IsFormat f
      → Encodes f w d c words
      → k < 2 * pairs_in (shape_of f)
      → IsXyz (k / streams (shape_of f))
      → DisturbedBefore f a words k
      → wrong_at f a words k ≡ 2
      → read_span f w ≡ refused 21 k
  -- a word that is near a legal timing word is repaired to it, and its wrong bits are those in which it differs
  pub near_legal :
      (w x : ℕ)
      → (x ≡ 0x800) ⊎ ((x ≡ 0x9D0) ⊎ ((x ≡ 0xAB0) ⊎ (x ≡ 0xB60)))
      → distance w x ≤ 1
      → (repaired w ≡ x) × (wrong_bits w ≡ distance w x) × ((b : ℕ) → bit_wrong b w ≡ differs_at b w x)
  -- the counts of a delivery are those of bits 0 to 11, in this order (b0 to b11 of 004, table 6)
  pub bits_in_order :
      (at : ℕ → ℕ)
      → each_bit at
      ≡ at 0 ∷ at 1 ∷ at 2 ∷ at 3 ∷ at 4 ∷ at 5 ∷ at 6 ∷ at 7 ∷ at 8 ∷ at 9 ∷ at 10 ∷ at 11 ∷ []
  -- the counts of the twelve bits add up to the count of wrong bits, whatever the words
  pub add_up :
      (f : Format) (w : List ℕ)
      → let r = (delivery_of f w).repairs in
      sum r.of_bit ≡ r.count
  -- a sent span's words with another twelve-bit word for one XYZ of the SAV are such words, at every place and before every place
  pub disturbed :
      (f : Format) (a : Request) (t x : ℕ)
      → IsFormat f
      → ((k : ℕ) → k < 2 * pairs_in (shape_of f) → word_in (span_words f a) k < 4096)
      → t < streams (shape_of f)
      → x < 4096
      → let words = set (span_words f a) (streams (shape_of f) * 3 + t) x in
      Disturbed f a words × DisturbedBefore f a words (streams (shape_of f) * 3 + t)
  -- ---- what a window has that is read

  -- stream 1 has the words of the line after the one that is answered, and every other stream has the same
  pub line_answered :
      (f : Format) (w : List ℕ) (r : Delivery)
      → IsFormat f
      → read_span f w ≡ given r
      → (m : ℕ) × Names (word_of_window f w) m × Follows r.line.0 m
  pub all_streams :
      (f : Format) (w : List ℕ) (r : Delivery)
      → IsFormat f
      → read_span f w ≡ given r
      → (t : ℕ)
      → t < streams (shape_of f)
      → (word_of_window f w 1928 t ≡ word_of_window f w 1928 0) × (word_of_window f w 1929 t ≡ word_of_window f w 1929 0)
  -- the lost recital: a window with LN0 of line 128 and LN1 of line 127, which are 800 and 800, is not read
  pub recital :
      (f : Format) (w : List ℕ) (r : Delivery)
      → IsFormat f
      → read_span f w ≡ given r
      → word_of_window f w 1928 0 ≡ 0x800
      → word_of_window f w 1929 0 ≡ 0x800
      → ⊥
  -- a window that is read has the words of the span sent for its answer, but for XYZ, each with at most one wrong bit, and the ancillary area
  pub strict :
      (f : Format) (w : List ℕ) (r : Delivery)
      → IsFormat f
      → read_span f w ≡ given r
      → SentBut f (request_of f r (picture_of f w)) (word_at (shape_of f) w)
  -- the four bytes that are replaced in SAV and EAV are the same in every timing code, whatever V and H (7.1.1 and 7.1.2)
  pub fixed_bytes :
      (half : ℕ)
      → 1 ≤ half
      → (v h : Bool) (i : ℕ)
      → i < 4
      → get_or (bytes (interleaved (2 * half) 4 (λ _. timing_code v h))) i 0 ≡ fixed_byte (2 * half) i
  -- what is read does not depend on the component that the link carries: a span of C'B is also read as one of Y'
  pub component_unread :
      (number depth structure size c e : ℕ) (w : List ℕ)
      → let f = format_from number depth c structure size in
      let g = format_from number depth e structure size in
      (read_span f w ≡ read_span g w) × (picture_of f w ≡ picture_of g w)
