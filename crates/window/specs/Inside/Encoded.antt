-- A window as the encoding of words and content bytes: the part that only loops and proofs use. The rest is in specs/Encoded.
-- Assumes nothing.
use Rattle.std.specs.Prelude.{ℕ, ◌+◌, ◌*◌, ◌/◌, ◌%◌, ◌<◌, ◌≡◌, true, List, length, get_or}
use Rattle.ground.specs.Written.{table}
use Rattle.symbol.specs.declared.disparity.Disparity.{Disparity}
use Rattle.std.specs.Prelude.{Some as Named}
use Rattle.span.specs.declared.content.ContentBytes.{ContentBytes}
use Rattle.span.specs.declared.format.Format.{Format}
use Rattle.span.specs.declared.format.Shape.{Shape}
use Rattle.span.specs.Encoding.{after_run}
use Rattle.span.specs.Content.{content_of}
use Rattle.span.specs.Format.{is_known, shape_of, streams, samples_in, pairs_in, eav_at}
use Rattle.span.specs.Layout.{picture_start}
use Rattle.span.specs.Sample.{allowed}
use Rattle.span.specs.Span.{bytes}
use Rattle.span.specs.Stream.{Request}
use Rattle.line.specs.Stream.{is_line}
use Rattle.window.specs.declared.delivery.Delivery.{Delivery}
use Rattle.window.specs.Encoded.{chars_of, AreContent, word_in, sample_of}
use Rattle.window.specs.Read.{placed, content_in, repairs_of}
use Rattle.window.specs.Tests.{word_of, holds21, holds22, holds23, holds24, holds25, holds26, line_read, repair_count, repairs_at}
use Rattle.window.specs.Words.{fixed_byte, word_at}

-- words whose replaced bytes, in SAV and EAV, have the values that a receiver assumes
pub record Restored (p : Shape) (words : List ℕ) : Type 0 where
  pub sav : (i : ℕ) → i < 4 → get_or (bytes words) i 0 ≡ fixed_byte (streams p) i
  pub eav : (i : ℕ) → i < 4 → get_or (bytes words) (eav_at p + i) 0 ≡ fixed_byte (streams p) i

-- words that pass tests 21 to 26: those that meet the rules (`passes_meets`, `meets_passes`)
pub record Passes (f : Format) (word : ℕ → ℕ) : Type 0 where
  pub timing : (k : ℕ) → k < 2 * pairs_in (shape_of f) → placed (streams (shape_of f)) (holds21 (streams (shape_of f)) word) k ≡ true
  pub line_number : (k : ℕ) → k < 2 * pairs_in (shape_of f) → placed (streams (shape_of f)) (holds22 (streams (shape_of f)) word) k ≡ true
  pub v : (k : ℕ) → k < 2 * pairs_in (shape_of f) → placed (streams (shape_of f)) (holds23 (streams (shape_of f)) word) k ≡ true
  pub crcc : (k : ℕ) → k < 2 * pairs_in (shape_of f) → placed (streams (shape_of f)) (holds24 (streams (shape_of f)) word) k ≡ true
  pub picture : (k : ℕ) → k < 2 * pairs_in (shape_of f) → placed (streams (shape_of f)) (holds25 (streams (shape_of f)) word f) k ≡ true
  pub fill : (k : ℕ) → k < 2 * pairs_in (shape_of f) → placed (streams (shape_of f)) (holds26 (streams (shape_of f)) word f) k ≡ true

-- what is answered for words that pass the tests
abbrev pub answered : Format → Disparity → ContentBytes → List ℕ → Delivery
answered f d c words =
    let p = shape_of f in
    record {
      line = record { 0 = line_read (streams p) (word_in words) };
      content = c;
      before = d;
      after = after_run d (chars_of p c words);
      repairs = repairs_of (repair_count (streams p) (word_in words)) (repairs_at (streams p) (word_in words));
    }

-- ---- what is sent, and what arrives

-- what may be sent: a known format, a line, content bytes, and a span's number of samples, each of them allowed
pub record Sendable (f : Format) (a : Request) : Type 0 where
  pub known : is_known f ≡ true
  pub line : is_line a.line ≡ true
  pub content : AreContent (content_of f a.content)
  pub long : length a.samples ≡ samples_in (shape_of f)
  pub allowed : (i : ℕ) → i < length a.samples → allowed f a.line (i / 1920) (get_or a.samples i 0) ≡ true

-- ---- what is read, sent again

-- the samples that words carry, stream by stream
abbrev pub samples_read : Format → (ℕ → ℕ) → List ℕ
samples_read f word =
    let s = streams (shape_of f) in
    table (samples_in (shape_of f)) (λ i. sample_of f (line_read s word) (word_of s word (picture_start + i % 1920) (i / 1920)))

-- the request that has such words and content bytes sent
abbrev pub request_for : Format → ContentBytes → (ℕ → ℕ) → Request
request_for f c word = record { line = line_read (streams (shape_of f)) word; content = Named c; samples = samples_read f word }

-- the answer for a window, as a request
abbrev pub request_again : Format → List ℕ → Request
request_again f w = request_for f (content_in (shape_of f) w) (word_at (shape_of f) w)
