-- A window is judged and read by its tests, a call without one is refused, and a window's picture has as many words as a span's samples.
-- Assumes nothing.
use mathlib.Core.Path.{◌≡◌}
use mathlib.Core.Bool.{true, false}
use mathlib.Core.List.{List}
use Prim.Native.Nat.{ℕ, ◌*◌}
use lib.Dec.{eqb}
use lib.ListN.{length}
use borrow.Author.Tests.{eq-eqb, ne_eqb}
use Rattle.ground.specs.Answer.{refused}
use Rattle.ground.proofs.Writing.{length_upto, length_table}
use Rattle.span.specs.declared.format.Format.{Format}
use Rattle.span.specs.Format.{is_known, shape_of, streams, samples_in, symbols_in}
use Rattle.span.specs.Layout.{picture_start}
use Rattle.window.specs.Read.{picture_of, read_span, judge_of, read_of}
use Rattle.window.specs.Tests.{column, rows}
use Rattle.window.specs.Words.{word_at}
use Rattle.window.specs.Inside.Window.{IsWindow}

pub length_rows : (s : ℕ) (word : ℕ → ℕ) → length (rows s word) ≡ 1920 * s
unfolding rows
length_rows s word = length_upto 1920 (column s word picture_start 1920) (λ t. length_table 1920 _) s

module _ (f : Format) (w : List ℕ) (is : IsWindow f w) where
  pub long : eqb (length w) (symbols_in (shape_of f)) ≡ true
  long = eq-eqb (length w) (symbols_in (shape_of f)) is.long

  pub length_picture : length (picture_of f w) ≡ samples_in (shape_of f)
  unfolding picture_of
  length_picture = length_rows (streams (shape_of f)) (word_at (shape_of f) w)

  pub judge_is : judge_of f w ≡ read_span f w
  unfolding read_span
  judge_is = rw (is.known, long)

  pub read_is : (room : ℕ) → room ≡ samples_in (shape_of f) → read_of f w room ≡ read_span f w
  unfolding read_span
  read_is room e = rw (is.known, long, eq-eqb room (samples_in (shape_of f)) e)

  pub no_room : (room : ℕ) → (room ≡ samples_in (shape_of f) → ⊥) → read_of f w room ≡ refused 4 0
  no_room room x = rw (is.known, long, ne_eqb room (samples_in (shape_of f)) x)

module _ (f : Format) (w : List ℕ) (room : ℕ) where
  pub unknown : is_known f ≡ false → (read_of f w room ≡ refused 1 0) × (judge_of f w ≡ refused 1 0)
  unknown k = (rw k, rw k)

  pub no_window : is_known f ≡ true → (length w ≡ symbols_in (shape_of f) → ⊥) → (read_of f w room ≡ refused 3 0) × (judge_of f w ≡ refused 3 0)
  no_window k x =
      let n = ne_eqb (length w) (symbols_in (shape_of f)) x in (rw (k, n), rw (k, n))
