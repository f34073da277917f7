-- How long a span is: its words, characters and symbols; and document 01's table of formats.
-- Assumes nothing.
use mathlib.Core.Path.{◌≡◌, ◌∙◌}
use mathlib.Core.Bool.{true}
use mathlib.Core.List.{[], ◌∷◌}
use Prim.Native.Nat.{ℕ, zero, suc, ◌+◌, ◌*◌, ◌≤◌}
use native.Mathlib.Omega.{arith}
use lib.ListN.{length, length-append, length-replicate}
use Rattle.symbol.specs.declared.disparity.Disparity.{Disparity}
use Rattle.span.specs.declared.format.Format.{Format}
use Rattle.span.specs.declared.format.Shape.{Shape}
use Rattle.span.specs.Content.{content_of}
use Rattle.span.specs.Format.{is_known, numbered, shape_of, streams, pairs_in, symbols_in, eav_at}
use Rattle.span.specs.Paper.{columns}
use Rattle.span.specs.Span.{interleaved, bytes, words_from_sav, words_from_eav, span_words, chars_from_sav, chars_from_eav, span_chars, span_symbols}
use Rattle.span.specs.Stream.{Request, from_sav, from_eav}
use Rattle.span.specs.Layout.{eav_start}
use Rattle.span.proofs.Encoding.{length_symbols}
use Rattle.span.proofs.Formats.{known_told}
use Rattle.span.proofs.Interleaving.{length_interleaved}
use Rattle.span.proofs.Packing.{length_bytes}
use Rattle.span.proofs.Synchronised.{length_both}

pub table_of_formats :
    (f : Format)
    → (f.number ≡ 1 → columns f ≡ 2 ∷ 268 ∷ 880 ∷ 7920 ∷ 3840 ∷ [])
    × (f.number ≡ 2 → columns f ≡ 2 ∷ 708 ∷ 1056 ∷ 9504 ∷ 3840 ∷ [])
    × (f.number ≡ 3 → columns f ≡ 4 ∷ 708 ∷ 2112 ∷ 19008 ∷ 7680 ∷ [])
unfolding shape_of
table_of_formats f = (λ e. rw e, λ e. rw e, λ e. rw e)

-- a known format has streams and fill
record Some (p : Shape) : Type 0 where
  half : 1 ≤ p.stream_pairs
  fill : 1 ≤ p.fill_pairs

-- formats 1 to 3 have
some_row : (n : ℕ) → 1 ≤ n → n ≤ 3 → Some (numbered n)
some_row zero p q = absurd (omega arith)
some_row (suc zero) p q = record { half = omega arith; fill = omega arith }
some_row (suc (suc zero)) p q = record { half = omega arith; fill = omega arith }
some_row (suc (suc (suc zero))) p q = record { half = omega arith; fill = omega arith }
some_row (suc (suc (suc (suc n)))) p q = absurd (omega arith)

module _ (f : Format) (known : is_known f ≡ true) where
  some : Some (shape_of f)
  unfolding shape_of
  some = let k = known_told f known in some_row f.number k.from k.to

  pub known_has_streams : 1 ≤ (shape_of f).stream_pairs
  known_has_streams = some.half

  pub known_has_fill : 1 ≤ (shape_of f).fill_pairs
  known_has_fill = some.fill

-- words: any format
module _ (f : Format) (a : Request) where
  pub length_words_sav : length (words_from_sav f a) ≡ streams (shape_of f) * eav_start
  unfolding words_from_sav
  length_words_sav = length_interleaved (streams (shape_of f)) eav_start (from_sav f a)

  pub length_words_eav :
      length (words_from_eav f a) ≡ streams (shape_of f) * (8 + (shape_of f).ancillary) + 2 * (shape_of f).fill_pairs
  unfolding words_from_eav
  length_words_eav =
      let n = 8 + (shape_of f).ancillary in
      length-append (interleaved (streams (shape_of f)) n (from_eav f a)) _
      ∙ rw (length_interleaved (streams (shape_of f)) n (from_eav f a), length-replicate)

  pub length_words : length (span_words f a) ≡ 2 * pairs_in (shape_of f)
  unfolding span_words
  length_words = length-append (words_from_sav f a) (words_from_eav f a) ∙ omega (arith, length_words_sav, length_words_eav)

  -- their bytes
  pub length_bytes_sav : length (bytes (words_from_sav f a)) ≡ eav_at (shape_of f)
  length_bytes_sav =
      length_bytes ((shape_of f).stream_pairs * eav_start) (words_from_sav f a) (length_words_sav ∙ omega arith) ∙ omega arith

  pub length_bytes_eav :
      length (bytes (words_from_eav f a)) ≡ 3 * ((shape_of f).stream_pairs * (8 + (shape_of f).ancillary) + (shape_of f).fill_pairs)
  length_bytes_eav =
      length_bytes ((shape_of f).stream_pairs * (8 + (shape_of f).ancillary) + (shape_of f).fill_pairs) (words_from_eav f a)
      (length_words_eav ∙ omega arith)

-- characters and symbols, where there are streams
module _ (f : Format) (a : Request) (some : 1 ≤ (shape_of f).stream_pairs) where
  pub length_chars : length (span_chars f a) ≡ symbols_in (shape_of f)
  unfolding span_chars chars_from_sav chars_from_eav
  length_chars =
      length_both (content_of f a.content) (bytes (words_from_sav f a)) (bytes (words_from_eav f a)) (eav_at (shape_of f))
      (length_bytes_sav f a) (omega arith) (omega (arith, length_bytes_eav f a))
      ∙ omega (arith, length_bytes_eav f a)

  pub length_of_symbols : (d : Disparity) → length (span_symbols d f a) ≡ symbols_in (shape_of f)
  unfolding span_symbols
  length_of_symbols d = length_symbols d (span_chars f a) ∙ length_chars
