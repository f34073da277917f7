-- The rows of all streams, two at a time, and their sums.
-- Assumes nothing.
use mathlib.Core.Path.{◌≡◌, sym, ap, ◌∙◌}
use mathlib.Core.List.{List}
use Prim.Native.Nat.{ℕ, ◌+◌, ◌*◌}
use native.Mathlib.Omega.{arith}
use lib.ListN.{length}
use lib.Seq.{sets, length-sets}
use Rattle.ground.specs.Written.{upto}
use Rattle.ground.proofs.Writing.{sets_upto, sets_whole, length_upto, length_table}
use Rattle.span.specs.declared.format.Shape.{Shape}
use Rattle.span.specs.Format.{streams, samples_in}
use Rattle.span.specs.Layout.{picture_start}
use Rattle.window.specs.Tests.{rows as rows_of, word_of}
use Rattle.window.specs.Words.{word_at}
use Rattle.window.specs.Inside.Columns.{column_of}
use Rattle.read_test20.specs.Inside.Picture.{put_two}

module _ (p : Shape) (w : List ℕ) where
  sized : (t : ℕ) → length (column_of p w picture_start 1920 t) ≡ 1920
  sized t = length_table 1920 (λ i. word_of (streams p) (word_at p w) (picture_start + i) t)

  -- a buffer keeps its length
  pub same_size : (old : List ℕ) {after : List ℕ} (u first count : ℕ) → after ≡ put_two p w u first count old → length after ≡ length old
  same_size old u first count e =
      let low = sets old (2 * u * count) (column_of p w first count (2 * u)) in
      ap (λ (l : List ℕ). length l) e ∙ length-sets low (2 * u * count + count) (column_of p w first count (2 * u + 1))
      ∙ length-sets old (2 * u * count) (column_of p w first count (2 * u))

  -- after the rows before them
  put_more : (old : List ℕ) (u : ℕ)
      → put_two p w u picture_start 1920 (sets old 0 (upto (2 * u) (column_of p w picture_start 1920))) ≡ sets old 0 (upto (2 * u + 1 + 1) (column_of p w picture_start 1920))
  put_more old u =
      let f : ℕ → List ℕ = column_of p w picture_start 1920 in
      ap (λ (l : List ℕ). sets l (2 * u * 1920 + 1920) (f (2 * u + 1)))
      (sets_upto 1920 f sized old 0 (2 * u * 1920) (2 * u) (omega arith))
      ∙ sets_upto 1920 f sized old 0 (2 * u * 1920 + 1920) (2 * u + 1) (omega arith)

  module _ (old : List ℕ) (long : length old ≡ samples_in p) where
    -- all rows are all that is there
    whole : (n : ℕ) → n ≡ streams p → sets old 0 (upto n (column_of p w picture_start 1920)) ≡ rows_of (streams p) (word_at p w)
    unfolding rows_of
    whole n e =
        rw e
        (sets_whole old (upto (streams p) (column_of p w picture_start 1920)) (length_upto 1920 (column_of p w picture_start 1920) sized (streams p) ∙ sym long))

    first_two : put_two p w 0 picture_start 1920 old ≡ sets old 0 (upto 2 (column_of p w picture_start 1920))
    unfolding upto
    first_two = put_more old 0

    module _ {mid : List ℕ} (is : mid ≡ put_two p w 0 picture_start 1920 old) where
      pub rows_of_two : p.stream_pairs ≡ 1 → mid ≡ rows_of (streams p) (word_at p w)
      rows_of_two one = is ∙ first_two ∙ whole 2 (omega arith)

      pub rows_of_four : {after : List ℕ} → p.stream_pairs ≡ 2 → after ≡ put_two p w 1 picture_start 1920 mid → after ≡ rows_of (streams p) (word_at p w)
      rows_of_four two e =
          e ∙ ap (put_two p w 1 picture_start 1920) (is ∙ first_two) ∙ put_more old 1 ∙ whole 4 (omega arith)
