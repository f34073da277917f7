-- A window as the encoding of words and content bytes: what a sender puts on the link, whatever its words say. A span that is sent is one
-- (law `sent_encodes`), and so is every window that is read (law `accepted_encodes`).
-- Assumes nothing.
use Rattle.std.specs.Prelude.{ℕ, ◌+◌, ◌*◌, ◌/◌, ◌%◌, ◌≤◌, ◌<◌, ◌≡◌, cond, ◌&&◌, List, ◌++◌, map, ◌⊎◌, eqb, length, get_or, take, drop}
use Rattle.line.specs.Stream.{is_active}
use Rattle.symbol.specs.declared.disparity.Disparity.{Disparity}
use Rattle.symbol.specs.declared.special.Special.TheVariants.{K28_5, K29_7}
use Rattle.std.specs.Prelude.{Some as Named}
use Rattle.span.specs.declared.content.ContentBytes.{ContentBytes}
use Rattle.span.specs.declared.format.Format.{Format}
use Rattle.span.specs.declared.format.Shape.{Shape}
use Rattle.span.specs.Encoding.{symbols_from}
use Rattle.span.specs.Format.{shape_of, streams, pairs_in}
use Rattle.span.specs.Layout.{eav_start, sav_xyz, eav_xyz}
use Rattle.span.specs.Span.{bytes, synchronised, span_words}
use Rattle.span.specs.Stream.{Request}
use Rattle.word.specs.Repair.{distance, differs_at}
use Rattle.window.specs.declared.delivery.Delivery.{Delivery}
use Rattle.window.specs.Rules.{Rule21, Rule22, Rule23, Rule24, Rule25, Rule26}

-- the characters of a span's words, with the special characters and the content bytes put in
unfoldable pub chars_of : Shape → ContentBytes → List ℕ → List ℕ
chars_of p c words =
    synchronised K28_5 c.sav1 c.sav2 (bytes (take (eav_start * streams p) words))
    ++ synchronised K29_7 c.eav1 c.eav2 (bytes (drop (eav_start * streams p) words))

pub record AreContent (c : ContentBytes) : Type 0 where
  pub sav1 : c.sav1 < 256
  pub sav2 : c.sav2 < 256
  pub eav1 : c.eav1 < 256
  pub eav2 : c.eav2 < 256

-- a window is the encoding, from disparity d, of a span's twelve-bit words and content bytes
pub record Encodes (f : Format) (w : List ℕ) (d : Disparity) (c : ContentBytes) (words : List ℕ) : Type 0 where
  pub symbols : w ≡ symbols_from d (chars_of (shape_of f) c words)
  pub content : AreContent c
  pub long : length words ≡ 2 * pairs_in (shape_of f)
  pub small : (k : ℕ) → k < length words → get_or words k 0 < 4096

-- interleaved word k
abbrev pub word_in : List ℕ → ℕ → ℕ
word_in words k = get_or words k 0

-- a rule at every interleaved place k: word k / s of stream k % s
abbrev pub Everywhere : Format → (ℕ → ℕ → Type 0) → Type 0
Everywhere f rule = (k : ℕ) → k < 2 * pairs_in (shape_of f) → rule (k / streams (shape_of f)) (k % streams (shape_of f))

-- word j of stream t of a span's words
abbrev pub words_of : Format → (ℕ → ℕ) → ℕ → ℕ → ℕ
words_of f word j t = word (streams (shape_of f) * j + t)

-- words that meet rules 21 to 26: a window is read if and only if it is the encoding of such words (laws `exact_if`, `exact_only_if`)
pub record Meets (f : Format) (word : ℕ → ℕ) : Type 0 where
  pub timing : Everywhere f (Rule21 (words_of f word))
  pub line_number : Everywhere f (Rule22 (words_of f word))
  pub v : Everywhere f (Rule23 (words_of f word))
  pub crcc : Everywhere f (Rule24 (words_of f word))
  pub picture : Everywhere f (Rule25 f (words_of f word))
  pub fill : Everywhere f (Rule26 f (words_of f word))

-- ---- what is sent, and what arrives

-- the XYZ of SAV and EAV
abbrev pub IsXyz : ℕ → Type 0
IsXyz j = (j ≡ sav_xyz) ⊎ (j ≡ eav_xyz)

-- twelve-bit words that are those of a sent span, apart from its XYZ
pub record Disturbed (f : Format) (a : Request) (words : List ℕ) : Type 0 where
  pub long : length words ≡ 2 * pairs_in (shape_of f)
  pub small : (k : ℕ) → k < length words → get_or words k 0 < 4096
  pub same :
      (k : ℕ)
      → k < 2 * pairs_in (shape_of f)
      → (k / streams (shape_of f) ≡ sav_xyz → ⊥)
      → (k / streams (shape_of f) ≡ eav_xyz → ⊥)
      → word_in words k ≡ word_in (span_words f a) k

-- in how many bits the word at place k differs from the one sent
abbrev pub wrong_at : Format → Request → List ℕ → ℕ → ℕ
wrong_at f a words k = distance (word_in words k) (word_in (span_words f a) k)

-- whether bit b of it does: 1 or 0
abbrev pub wrong_bit_at : Format → Request → List ℕ → ℕ → ℕ → ℕ
wrong_bit_at f a words b k = differs_at b (word_in words k) (word_in (span_words f a) k)

-- words that are those of a sent span before place k, apart from its XYZ, each of which has at most one wrong bit; whatever stands behind k
pub record DisturbedBefore (f : Format) (a : Request) (words : List ℕ) (k : ℕ) : Type 0 where
  pub same : (i : ℕ) → i < k → (IsXyz (i / streams (shape_of f)) → ⊥) → word_in words i ≡ word_in (span_words f a) i
  pub near : (i : ℕ) → i < k → IsXyz (i / streams (shape_of f)) → wrong_at f a words i ≤ 1

-- ---- what is read, sent again

-- the sample that a word of line n carries: on an active line at ten bits the word without its two low bits, else the word
abbrev pub sample_of : Format → ℕ → ℕ → ℕ
sample_of f n x = cond (is_active n && eqb f.depth 10) (x / 4) x

-- the answer for a span and its picture words, as a request
abbrev pub request_of : Format → Delivery → List ℕ → Request
request_of f r words = record { line = r.line.0; content = Named r.content; samples = map (sample_of f r.line.0) words }

-- the words of a sent span, but for XYZ, which have at most one wrong bit, and for the ancillary area
pub record SentBut (f : Format) (a : Request) (word : ℕ → ℕ) : Type 0 where
  pub same :
      (k : ℕ)
      → k < 2 * pairs_in (shape_of f)
      → (IsXyz (k / streams (shape_of f)) → ⊥)
      → (1932 ≤ k / streams (shape_of f) → k / streams (shape_of f) < 1932 + (shape_of f).ancillary → ⊥)
      → word k ≡ word_in (span_words f a) k
  pub near :
      (k : ℕ) → k < 2 * pairs_in (shape_of f) → IsXyz (k / streams (shape_of f)) → distance (word k) (word_in (span_words f a) k) ≤ 1
