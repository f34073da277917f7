-- Reading a span: its tests in the order tried, the answer, and the rows afterwards (document 01, "Receiving and finding" and its table of
-- refusals).
-- Assumes nothing.
use Rattle.std.specs.Prelude.{ℕ, ◌+◌, ◌*◌, ◌/◌, ◌%◌, Bool, not, cond, List, [], ◌∷◌, eqb, ltb, length, replicate}
use Rattle.ground.specs.Answer.{Answer, refused, given, Row, unless, checked}
use Rattle.ground.specs.Search.{first_below}
use Rattle.span.specs.declared.content.ContentBytes.{ContentBytes}
use Rattle.span.specs.declared.format.Format.{Format}
use Rattle.span.specs.declared.format.Shape.{Shape}
use Rattle.span.specs.Format.{is_known, shape_of, streams, samples_in, pairs_in, symbols_in, eav_at}
use Rattle.window.specs.declared.delivery.Delivery.{Delivery}
use Rattle.window.specs.declared.delivery.Repairs.{Repairs}
use Rattle.ground.specs.Written.{table}
use Rattle.window.specs.Scan.{byte_of, symbol_at, start_of, running_at, holds20}
use Rattle.window.specs.Tests.{holds21, holds22, holds23, holds24, holds25, holds26, line_read, repair_count, repairs_at, rows}
use Rattle.window.specs.Words.{word_at}

-- a test of n places: it fails at the lowest place at which it does not hold
abbrev pub lowest : ℕ → ℕ → (ℕ → Bool) → Row
lowest number n holds = record { number = number; fails = first_below n (λ k. not (holds k)) }

-- a test of the words of s streams, at interleaved place k: word k / s of stream k % s
abbrev pub placed : ℕ → (ℕ → ℕ → Bool) → ℕ → Bool
placed s holds k = holds (k / s) (k % s)

-- tests 21 to 26 over the words of a span
abbrev pub word_tests : Format → (ℕ → ℕ) → List Row
word_tests f word =
    let s = streams (shape_of f) in
    let n = 2 * pairs_in (shape_of f) in
    lowest 21 n (placed s (holds21 s word))
    ∷ lowest 22 n (placed s (holds22 s word))
    ∷ lowest 23 n (placed s (holds23 s word))
    ∷ lowest 24 n (placed s (holds24 s word))
    ∷ lowest 25 n (placed s (holds25 s word f))
    ∷ lowest 26 n (placed s (holds26 s word f))
    ∷ []

-- all tests of a window, each over the whole of it
abbrev pub span_tests : Format → List ℕ → List Row
span_tests f w = lowest 20 (symbols_in (shape_of f)) (holds20 (shape_of f) w) ∷ word_tests f (word_at (shape_of f) w)

-- the content bytes: the two after the special characters of SAV and EAV
abbrev pub content_in : Shape → List ℕ → ContentBytes
content_in p w =
    record {
      sav1 = byte_of (symbol_at w 2);
      sav2 = byte_of (symbol_at w 3);
      eav1 = byte_of (symbol_at w (eav_at p + 2));
      eav2 = byte_of (symbol_at w (eav_at p + 3));
    }

-- a count for each of the twelve bits, b0, the lowest, first
abbrev pub each_bit : (ℕ → ℕ) → List ℕ
each_bit at = table 12 at

-- the repairs of a span with this many wrong bits, of which so many are each bit
abbrev pub repairs_of : ℕ → (ℕ → ℕ) → Repairs
repairs_of count at = record { count = count; of_bit = each_bit at }

-- where nothing was wrong
abbrev pub no_repairs : Repairs
no_repairs = repairs_of 0 (λ b. 0)

-- what is answered if all tests hold
unfoldable pub delivery_of : Format → List ℕ → Delivery
delivery_of f w =
    let p = shape_of f in
    record {
      line = record { 0 = line_read (streams p) (word_at p w) };
      content = content_in p w;
      before = start_of w;
      after = running_at w (symbols_in p);
      repairs = repairs_of (repair_count (streams p) (word_at p w)) (repairs_at (streams p) (word_at p w));
    }

-- the picture words of a window, stream by stream
unfoldable pub picture_of : Format → List ℕ → List ℕ
picture_of f w = rows (streams (shape_of f)) (word_at (shape_of f) w)

-- the reading of a window of a span's length
unfoldable pub read_span : Format → List ℕ → Answer Delivery
read_span f w = checked (span_tests f w) (delivery_of f w)

-- ---- the two calls

-- judging a span
abbrev pub judge_of : Format → List ℕ → Answer Delivery
judge_of f w =
    checked (unless 1 (is_known f) ∷ unless 3 (eqb (length w) (symbols_in (shape_of f))) ∷ span_tests f w) (delivery_of f w)

-- reading it into rows with room for this many words
abbrev pub read_of : Format → List ℕ → ℕ → Answer Delivery
read_of f w room =
    checked
    (unless 1 (is_known f)
    ∷ unless 3 (eqb (length w) (symbols_in (shape_of f)))
    ∷ unless 4 (eqb room (samples_in (shape_of f)))
    ∷ span_tests f w)
    (delivery_of f w)

-- the rows afterwards: unchanged after a refusal below 20, zero after any other, the picture if the span is delivered
abbrev pub rows_left : {A : Type 0} → Answer A → List ℕ → List ℕ → List ℕ
rows_left (refused number place) entry made = cond (ltb number 20) entry (replicate (length entry) 0)
rows_left (given a) entry made = made

abbrev pub rows_read : Format → List ℕ → List ℕ → List ℕ
rows_read f w entry = rows_left (read_of f w (length entry)) entry (picture_of f w)
