-- The pieces, one after the other, are what is written.
-- Assumes nothing.
use mathlib.Core.Path.{◌≡◌, refl, ap, ◌∙◌}
use mathlib.Core.List.{List, [], ◌++◌}
use Prim.Native.Nat.{ℕ, zero, suc, ◌-◌, ◌<◌}
use native.Mathlib.Omega.{arith}
use Rattle.ground.specs.Answer.{Answer, refused, given}
use Rattle.line.specs.Stream.{line_after}
use Rattle.span.specs.declared.format.Format.{Format}
use Rattle.span.specs.Span.{signal_from, signal, span_symbols, span_after}
use Rattle.symbol.specs.declared.disparity.Disparity.{Disparity}
use Rattle.generate.specs.declared.left.Left.{Left}
use Rattle.generate.specs.declared.parameters.Parameters.{Parameters}
use Rattle.generate.specs.Generated.{span_on, spans_from, low_first, written, generated}
use Rattle.generate.specs.Parameters.{wanted_of}
use Rattle.generate.specs.Pieces.{start_text, file_start, left_by, left_of}
use Rattle.generate.specs.Inside.Pieces.{rest_of, span_bytes, next_left}
use Rattle.generate.proofs.LowFirst.{low_append}

-- the start, and then what is left
by_answer : (input : List ℕ) (a : Answer Parameters) → written input a ≡ start_text input a ++ rest_of (left_by a)
unfolding rest_of spans_from signal_from low_first signal
by_answer input (refused number place) = refl
by_answer input (given p) = refl

pub pieces : (input : List ℕ) → generated input ≡ file_start input ++ rest_of (left_of input)
pieces input = by_answer input (wanted_of input)

-- nothing where no span is left
pub none_left : (s : Left) → s.count ≡ 0 → rest_of s ≡ []
unfolding rest_of spans_from signal_from low_first
none_left s e = rw e

-- else the next span, and what is left after it
module _ (d : Disparity) (f : Format) (n : ℕ) where
  abbrev span : List ℕ
  span = span_symbols d f (span_on f n)

  one_more :
      (count : ℕ)
      → low_first (signal_from d f (spans_from f n (suc count)))
      ≡ low_first span ++ low_first (signal_from (span_after d f (span_on f n)) f (spans_from f (line_after n) count))
  unfolding spans_from signal_from
  one_more count = low_append span (signal_from (span_after d f (span_on f n)) f (spans_from f (line_after n) count))

pub next_piece : (s : Left) → 0 < s.count → rest_of s ≡ span_bytes s ++ rest_of (next_left s)
unfolding rest_of span_bytes
next_piece s h = go s.count refl
  where
    go : (count : ℕ) → s.count ≡ count → rest_of s ≡ span_bytes s ++ rest_of (next_left s)
    go zero e = absurd (omega arith)
    go (suc count) e =
        let d = s.disparity in
        let f = s.format in
        let n = s.line.0 in
        let less : count ≡ s.count - 1 = omega arith in
        ap (λ (k : ℕ). low_first (signal_from d f (spans_from f n k))) e
        ∙ one_more d f n count
        ∙ ap (λ (k : ℕ). low_first (span d f n) ++ low_first (signal_from (span_after d f (span_on f n)) f (spans_from f (line_after n) k))) less
